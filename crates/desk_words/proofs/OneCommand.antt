-- Arguments name one command: if they mean `feed`, they mean nothing else.
use Rattle.desk_types.proofs.Common.{[], ◌∙◌, ◌∷◌, ◌≡◌, ap, Bool, bytes_eq-Decides, codes, false, inl, inr}
use Rattle.desk_types.proofs.Common.{IsSomeAnd, List, None, Ok, Option, option_map_or, refl, Result, Some}
use Rattle.desk_types.proofs.Common.{subst, sym, true, true≢false, ℕ}
use Rattle.clap.specs.{Kinds.IsAmong, Kinds.Kinds, Walk.first_of, Walk.Row}
use Rattle.clap.specs.{declared.error.kind.ErrorKind.ErrorKind}
use Rattle.desk_feed.specs.declared.options.BadOption.{BadOption}
use Rattle.desk_words.specs.CommandLine.{AsksForNothing, GoesUpTo, IsGreatest, named_by, Names, NamesImport}
use Rattle.desk_words.specs.CommandLine.{told_of}
use Rattle.imports.specs.declared.import.Import.{Import}
use Rattle.std.specs.Str.{bytes_eq}

abbrev name_in : Option (List ℕ × List Row) → List ℕ
name_in found = option_map_or (λ (p : List ℕ × List Row). p.0) found []

abbrev rows_in : Option (List ℕ × List Row) → List Row
rows_in found = option_map_or (λ (p : List ℕ × List Row). p.1) found []

pub one_name : (words : List (List ℕ)) (name name' : List ℕ) (rows rows' : List Row) → Names words name rows → Names words name' rows' → name ≡ name'
one_name words name name' rows rows' is is' = ap name_in (sym is.1 ∙ is'.1)

pub one_reading : (words : List (List ℕ)) (name name' : List ℕ) (rows rows' : List Row) → Names words name rows → Names words name' rows' → rows ≡ rows'
one_reading words name name' rows rows' is is' = ap rows_in (sym is.1 ∙ is'.1)

pub never_both : {A : Type 0} (words : List (List ℕ)) (name name' : List ℕ) (rows rows' : List Row) → bytes_eq name name' ≡ false
    → Names words name rows → Names words name' rows' → A
never_both words name name' rows rows' differ is is' =
    absurd (true≢false (sym ((bytes_eq-Decides name name').1 (one_name words name name' rows rows' is is')) ∙ differ))

pub never_import : {A : Type 0} (words : List (List ℕ)) (name : List ℕ) (rows rows' : List Row) (said : Result Import BadOption)
    → bytes_eq name (codes "import-setup") ≡ false → bytes_eq name (codes "import-counts") ≡ false → Names words name rows → NamesImport words rows' said → A
never_import words name rows rows' said setup counts is (inl import) = never_both words name (codes "import-setup") rows rows' setup is import.0
never_import words name rows rows' said setup counts is (inr import) = never_both words name (codes "import-counts") rows rows' counts is import.0

pub never_told : {A : Type 0} (words : List (List ℕ)) (name : List ℕ) (rows : List Row) (kind : ErrorKind) → Names words name rows → IsAmong kind (told_of words) → A
never_told words name rows kind is among = absurd (subst (λ (kinds : Kinds). IsAmong kind kinds) is.0 among)

never_beyond : {A : Type 0} (shown : Option (List ℕ)) (greatest : ℕ) → GoesUpTo shown greatest → IsSomeAnd shown (λ text. IsGreatest text → ⊥) → A
never_beyond None greatest up none = absurd none
never_beyond (Some text) greatest up none = absurd (none up.0)

lines_or_nothing : (words : List (List ℕ)) (rows : List Row) (greatest : ℕ) → Names words (codes "feed") rows → GoesUpTo (first_of (codes "greatest") rows) greatest → AsksForNothing words → ⊥
lines_or_nothing words rows greatest feed up nothing = elim nothing [
  | inl (kind, told, _) ↦ never_told words (codes "feed") rows kind feed told
  | inr (rows', inl (feed', beyond)) ↦ never_beyond (first_of (codes "greatest") rows) greatest up
      (subst (λ (at : List Row). IsSomeAnd (first_of (codes "greatest") at) (λ text. IsGreatest text → ⊥)) (one_reading words (codes "feed") (codes "feed") rows' rows feed' feed) beyond)
  | inr (rows', inr (inl (serving, _))) ↦ never_both words (codes "feed") (codes "serve") rows rows' refl feed serving
  | inr (rows', inr (inr (inl (report, _)))) ↦ never_both words (codes "feed") (codes "report") rows rows' refl feed report
  | inr (rows', inr (inr (inr (inl (audit, _))))) ↦ never_both words (codes "feed") (codes "audit") rows rows' refl feed audit
  | inr (rows', inr (inr (inr (inr (inl (migration, _)))))) ↦ never_both words (codes "feed") (codes "migrate") rows rows' refl feed migration
  | inr (rows', inr (inr (inr (inr (inr (import, imports, _)))))) ↦ never_import words (codes "feed") rows rows' (Ok import) refl refl feed imports
]
