-- The initial history of a run on the files.
use Rattle.desk_types.proofs.Common.{[], ◌∙◌, ◌≡◌, ap, false, History, inl, inr, IsJudged}
use Rattle.desk_types.proofs.Common.{IsPermutation, IsPermutation-sym, IsPermutation-trans, list_any, None}
use Rattle.desk_types.proofs.Common.{Option, refl, Some, sym, true, true≢false, ℕ}
use Rattle.line_tables.proofs.Common.{Database, Holds, HoldsAt, HoldsDatabase, is_ours, IsLive, Layout}
use Rattle.line_tables.proofs.Common.{no_schema, One, Opens, Reads, Rules, same_name, schema_of, State, Trees}
use Rattle.line_tables.proofs.Common.{Two}
use Rattle.desk_file.specs.{Files.Begins, Files.FindsNoTable, Files.HasOursFirst, Files.IsFoundIn}
use Rattle.desk_file.specs.{Files.IsOfOne, Found.FindsAs}
use Rattle.line_replay.specs.Rows.{ledger_tables, rows_of}
use Rattle.line_schema.specs.{Opening.IsNamed, Opening.IsNamedBy, Versions.IsMigrated}
use Rattle.line_tables.proofs.{Holding.held_at, Ours.is_blank_of, Ours.is_ours_of}
use Rattle.line_tables.specs.{Line.is_blank, Names.has_name, Names.is_version, Rows.Tables}
use Rattle.sqlite_schema.specs.declared.schema.Schema.{Schema}
use Rattle.sqlite_trees.specs.Props.{Trees-set}
use Rattle.sqlite_wal.specs.Recovery.{Image}
use Rattle.std.proofs.Math.Logic.{∥∥₁_elim}

named_by : (rules : Rules) (indexed : Layout) → list_any has_name (schema_of rules indexed).tables ≡ true
unfolding same_name
named_by rules indexed = refl

module _ (image : Image) (s : State) (finds : FindsAs image s) (opens : Opens s) (live : IsLive s) where
  pub found : IsFoundIn image s.committed
  found = record { sound = (live opens.is_open).1; reads = finds.reads; same = finds.holds }

  not_bare : (rules : Rules) → IsNamedBy rules s → s.committed.schema ≡ no_schema → ⊥
  not_bare rules named none = true≢false (sym named.0 ∙ ap (λ (x : Schema). list_any is_version x.tables) (ap (λ (db : Database). db.schema) opens.clean ∙ none))

  pub made_begins : (greatest : ℕ) → list_any has_name s.now.schema.tables ≡ false → HasOursFirst image → Begins image (Some greatest) greatest [] × (is_blank s.now.schema ≡ true)
  made_begins greatest nameless alone =
      let seen : s.now.schema ≡ s.committed.schema = ap (λ (db : Database). db.schema) opens.clean in
      elim (alone s.committed found) [
        | inl ours ↦ absurd (true≢false (sym (named_by ours.rules ours.layout) ∙ ap (λ (x : Schema). list_any has_name x.tables) (sym (seen ∙ ours.same)) ∙ nameless))
        | inr none ↦ (inr ((s.committed, found, none), refl, refl), is_blank_of s.now.schema (seen ∙ none))
      ]

  pub no_table : FindsNoTable image → is_blank s.now.schema ≡ true
  no_table none = is_blank_of s.now.schema (ap (λ (db : Database). db.schema) opens.clean ∙ none s.committed found)

  pub opened_begins : (make : Option ℕ) (greatest : ℕ) (H : History) → IsNamed s → Reads s (λ db. Holds db (ledger_tables greatest H)) → HasOursFirst image
      → Begins image make greatest H × (is_ours s.committed.schema ≡ true)
  opened_begins make greatest H named reads alone =
      elim (alone s.committed found) [
        | inl ours ↦ let held = reads.are ours in (inl (s.committed, found, held), is_ours_of s.committed.schema held.indexed held.schema)
        | inr none ↦ absurd (not_bare Two named none)
      ]

  pub migrates : (new : State) (greatest : ℕ) (H : History) (n : ℕ) → IsNamedBy One s → IsMigrated s new greatest H n → HasOursFirst image
      → IsOfOne image greatest H × Holds new.committed (ledger_tables greatest H) × ((trees : Trees) → new.may_leave trees → HoldsAt (ledger_tables greatest H) trees)
  migrates new greatest H n named m alone =
      elim (alone s.committed found) [
        | inl ours ↦ (record { tables = (s.committed, found, m.before.are ours); by_one = m.by_one ours; by_two = m.by_two ours }, m.after ours, λ trees left. m.alone trees left ours)
        | inr none ↦ absurd (not_bare One named none)
      ]

module _ (image : Image) (trees : Trees) (t : Tables) (holds : ∥ HoldsDatabase image trees ∥₁) (tables : HoldsAt t trees) where
  pub held : (db : Database) → IsFoundIn image db → Holds db t
  held db f = held_at t trees tables db f.sound (∥∥₁_elim holds (Trees-set _ _) (f.same trees))

  pub ours_first : HasOursFirst image
  ours_first db f = let tables = held db f in inl (record { rules = Two; layout = tables.indexed; same = tables.schema })

pub same_list : (image : Image) (trees : Trees) (greatest : ℕ) (H : History) → ((G H : History) → IsJudged Two G → IsJudged Two H → IsPermutation (rows_of G) (rows_of H) → G ≡ H)
    → ∥ HoldsDatabase image trees ∥₁ → HoldsAt (ledger_tables greatest H) trees → IsJudged Two H
    → (make : Option ℕ) (next : ℕ) (H' : History) → Begins image make next H' → IsJudged Two H' → (next ≡ greatest) × (H' ≡ H)
same_list image trees greatest H tell holds tables judged make next H' (inl has) judged' =
    let was = held image trees (ledger_tables greatest H) holds tables has.0 has.1 in
    let rows = sym was.version ∙ has.2.version in
    let number : greatest ≡ next = cc in
    (sym number, tell H' H judged' judged (IsPermutation-trans _ _ _ (IsPermutation-sym _ _ has.2.accepted) was.accepted))
same_list image trees greatest H tell holds tables judged make next H' (inr (none, made, empty)) judged' =
    let was = held image trees (ledger_tables greatest H) holds tables none.0 none.1 in
    absurd (true≢false (sym (named_by Two was.indexed) ∙ ap (λ (x : Schema). list_any has_name x.tables) (sym was.schema ∙ none.2)))

pub reads_none : (image : Image) (greatest : ℕ) (H : History) → Begins image None greatest H → FindsNoTable image → ⊥
reads_none image greatest H (inl has) none = true≢false (sym (named_by Two has.2.indexed) ∙ ap (λ (x : Schema). list_any has_name x.tables) (sym has.2.schema ∙ none has.0 has.1))
reads_none image greatest H (inr (bare, made, empty)) none = absurd (cc)

pub begins_any : (image : Image) (make : Option ℕ) (greatest : ℕ) (H : History) → Begins image None greatest H → Begins image make greatest H
begins_any image make greatest H (inl has) = inl has
begins_any image make greatest H (inr (none, made, empty)) = absurd (cc)
