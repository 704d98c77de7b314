-- A command line has one meaning at most.
use Rattle.std.proofs.Common.{◌≡◌, ◌≢◌, ◌∙◌, ◌+◌, ℕ, get_or, Bool, true, false, Option, Some, None, List, [], ◌∷◌, ◌++◌, ap, append_assoc, arith, codes, inl, inr, length, map, refl, subst, sym}
use Rattle.std.specs.Prelude.{IfSome, IsNone}
use Rattle.chain_files.specs.declared.marks.Links.{Links}
use Rattle.chain_files.specs.declared.words.Asked.{Asked}
use Rattle.chain_files.specs.declared.words.Asked.TheVariants.{Chain, Names, Pieces}
use Rattle.chain_files.specs.declared.words.Chosen.{Chosen}
use Rattle.chain_files.specs.declared.words.Kind.{Kind}
use Rattle.chain_files.specs.declared.words.Kind.TheVariants.{Lot, Board, Reel, Reels}
use Rattle.chain_files.specs.declared.words.Whose.{Whose}
use Rattle.chain_files.specs.Words.{AreBehind, ArePlain, Begins, AsksOf, HasFiles, HasName, HasNoPart, HasOptions, IsPart, MeanNothing, NameFiles, NotFirst, flag_words, kind_of, kind_word, link_words, part_words}

pub flag-same : (o : List ℕ) (b b' : Bool) (ws r r' : List (List ℕ)) → ws ≡ flag_words o b ++ r
    → ws ≡ flag_words o b' ++ r'
    → (b ≡ false → NotFirst o r) → (b' ≡ false → NotFirst o r') → (b' ≡ b) × (r' ≡ r)
flag-same o true true ws r r' e e' n n' = (refl, cc)
flag-same o true false ws r r' e e' n n' = absurd (n' refl r (sym e' ∙ e))
flag-same o false true ws r r' e e' n n' = absurd (n refl r' (sym e ∙ e'))
flag-same o false false ws r r' e e' n n' = (refl, sym e' ∙ e)

-- Another option doesn't come first.
behind-flag : (o other : List ℕ) (b : Bool) (rest : List (List ℕ)) → o ≢ other → NotFirst o rest
    → NotFirst o (flag_words other b ++ rest)
behind-flag o other true rest apart not r is = apart (cc)
behind-flag o other false rest apart not r is = not r is

pub links-only : (ws r1 r2 : List (List ℕ)) (m w : Bool) → ws ≡ flag_words (codes "--from-middle") m ++ r1
    → (m ≡ false → NotFirst (codes "--from-middle") r1)
    → r1 ≡ flag_words (codes "--without-marks") w ++ r2 → (w ≡ false → NotFirst (codes "--without-marks") r2)
    → (l : Links) (rest : List (List ℕ)) → AreBehind rest → ws ≡ link_words l ++ rest
    → (l ≡ record { from_middle = m; without_marks = w }) × (rest ≡ r2)
links-only ws r1 r2 m w e1 n1 e2 n2 l rest behind e =
    let middle = codes "--from-middle" in
    let marks = codes "--without-marks" in
    let apart : middle ≢ marks = λ is. absurd (let e : 13 ≡ 15 = ap length is in omega (arith, e)) in
    let first = flag-same middle m l.from_middle ws r1 (flag_words marks l.without_marks ++ rest) e1
    (e ∙ append_assoc (flag_words middle l.from_middle) (flag_words marks l.without_marks) rest) n1
    (λ _. behind-flag middle marks l.without_marks rest apart behind.no_middle) in
    let second = flag-same marks w l.without_marks r1 r2 rest e2 (sym first.1) n2 (λ _. behind.no_marks) in
    (λ j. record { from_middle = first.0 j; without_marks = second.0 j }, second.1)

-- Neither option on the files is another one.
behind-links : (o : List ℕ) (l : Links) (rest : List (List ℕ)) → o ≢ codes "--from-middle"
    → o ≢ codes "--without-marks" → NotFirst o rest → NotFirst o (link_words l ++ rest)
behind-links o l rest no_middle no_marks not r is =
    let middle = codes "--from-middle" in
    let marks = codes "--without-marks" in
    behind-flag o middle l.from_middle (flag_words marks l.without_marks ++ rest) no_middle
    (behind-flag o marks l.without_marks rest no_marks not) r
    (sym (append_assoc (flag_words middle l.from_middle) (flag_words marks l.without_marks) rest) ∙ is)

same-part : (P Q : Option (List ℕ)) (ws r r' : List (List ℕ))
    → ws ≡ part_words P ++ r → ws ≡ part_words Q ++ r'
    → (IsNone P → HasNoPart r) → NotFirst (codes "--part") r' → IfSome Q IsPart
    → (Q ≡ P) × (r' ≡ r)
same-part (Some p) (Some q) ws r r' e e' none not well = let both : codes "--part" ∷ q ∷ r'
    ≡ codes "--part" ∷ p ∷ r = sym e' ∙ e in (cc, cc)
same-part (Some p) None ws r r' e e' none not well = absurd (not (p ∷ r) (sym e' ∙ e))
same-part None (Some q) ws r r' e e' none not well = absurd (none refl q r' well (sym e ∙ e'))
same-part None None ws r r' e e' none not well = (refl, sym e' ∙ e)

pub options-only : (P : Option (List ℕ)) (p : Bool) (ws r1 r2 : List (List ℕ)) → ws ≡ part_words P ++ r1
    → (IsNone P → HasNoPart r1)
    → r1 ≡ flag_words (codes "--pieces") p ++ r2 → (p ≡ false → NotFirst (codes "--pieces") r2)
    → (chosen : Chosen) (rest : List (List ℕ)) → AreBehind rest → HasOptions ws chosen rest
    → (chosen.part ≡ P) × (chosen.with_pieces ≡ p) × (link_words chosen.links ++ rest ≡ r2)
options-only P p ws r1 r2 e1 n1 e2 n2 chosen rest behind (well, e) =
    let part = codes "--part" in
    let pieces = codes "--pieces" in
    let links = link_words chosen.links ++ rest in
    let no_part = behind-flag part pieces chosen.with_pieces links
    (λ is. absurd (let e : 6 ≡ 8 = ap length is in omega (arith, e)))
    (behind-links part chosen.links rest (λ is. absurd (let e : 6 ≡ 13 = ap length is in omega (arith, e)))
    (λ is. absurd (let e : 6 ≡ 15 = ap length is in omega (arith, e))) behind.no_part) in
    let no_pieces = behind-links pieces chosen.links rest
    (λ is. absurd (let e : 8 ≡ 13 = ap length is in omega (arith, e)))
    (λ is. absurd (let e : 8 ≡ 15 = ap length is in omega (arith, e))) behind.no_pieces in
    let first = same-part P chosen.part ws r1 (flag_words pieces chosen.with_pieces ++ links) e1 e n1 no_part well in
    let second = flag-same pieces p chosen.with_pieces r1 r2 links e2 (sym first.1) n2 (λ _. no_pieces) in
    (first.0, second.0, second.1)

pub empty-map : {X : Type 0} (f : X → List ℕ) (xs : List X) → length xs ≡ 0 → map f xs ≡ []
empty-map f [] is = refl
empty-map f (x ∷ xs) is = absurd (omega (arith, is))

pub some-map : {X : Type 0} (f : X → List ℕ) (xs : List X) → (length xs ≡ 0 → ⊥) → map f xs ≢ []
some-map f [] not is = not refl
some-map f (x ∷ xs) not is = cc

-- Nothing behind `--` names no file.
pub no-files : (ws paths : List (List ℕ)) → ws ≡ codes "--" ∷ [] → ¬ NameFiles ws paths
no-files ws paths is named = elim named.1 [
  | inl dashed ↦ named.0 (let same : codes "--" ∷ paths ≡ codes "--" ∷ [] = sym dashed ∙ is in cc)
  | inr plain ↦ (subst ArePlain (sym plain.0 ∙ is) plain.1).0 (codes "-", refl)
]

abbrev first-of : List (List ℕ) → List ℕ
first-of [] = []
first-of (w ∷ ws) = w

-- Words that name files begin with no option.
pub behind-dashes : (rest : List (List ℕ)) → AreBehind (codes "--" ∷ rest)
behind-dashes rest = record {
  no_part = λ r is. let e : 2 ≡ 6 = ap (λ (ws : List (List ℕ)). length (first-of ws)) is in omega (arith, e);
  no_pieces = λ r is. let e : 2 ≡ 8 = ap (λ (ws : List (List ℕ)). length (first-of ws)) is in omega (arith, e);
  no_middle = λ r is. let e : 2 ≡ 13 = ap (λ (ws : List (List ℕ)). length (first-of ws)) is in omega (arith, e);
  no_marks = λ r is. let e : 2 ≡ 15 = ap (λ (ws : List (List ℕ)). length (first-of ws)) is in omega (arith, e);
}

behind-plain : (paths : List (List ℕ)) → ArePlain paths → AreBehind paths
behind-plain paths plain = record {
  no_part = λ r is. (subst ArePlain is plain).0 (codes "-part", refl);
  no_pieces = λ r is. (subst ArePlain is plain).0 (codes "-pieces", refl);
  no_middle = λ r is. (subst ArePlain is plain).0 (codes "-from-middle", refl);
  no_marks = λ r is. (subst ArePlain is plain).0 (codes "-without-marks", refl);
}

pub behind-files : (ws paths : List (List ℕ)) → NameFiles ws paths → AreBehind ws
behind-files ws paths named = elim named.1 [
  | inl dashed ↦ subst AreBehind (sym dashed) (behind-dashes paths)
  | inr plain ↦ subst AreBehind (sym plain.0) (behind-plain paths plain.1)
]

-- Options, and then `--`, begin with two dashes.
flags-first : (m n : Bool) (ws rest r : List (List ℕ)) (word : List ℕ)
    → ws ≡ flag_words (codes "--from-middle") m ++ (flag_words (codes "--without-marks") n ++ codes "--" ∷ rest)
    → ws ≡ word ∷ r → Begins (codes "--") word
flags-first true n ws rest r word has is = (codes "from-middle", cc)
flags-first false true ws rest r word has is = (codes "without-marks", cc)
flags-first false false ws rest r word has is = ([], cc)

part-first : (P : Option (List ℕ)) (p : Bool) (l : Links) (ws rest r : List (List ℕ)) (word : List ℕ)
    → ws ≡ part_words P ++ (flag_words (codes "--pieces") p ++ (link_words l ++ codes "--" ∷ rest))
    → ws ≡ word ∷ r → Begins (codes "--") word
part-first (Some q) p l ws rest r word has is = (codes "part", cc)
part-first None true l ws rest r word has is = (codes "pieces", cc)
part-first None false l ws rest r word has is =
    flags-first l.from_middle l.without_marks ws rest r word
    (has ∙ append_assoc (flag_words (codes "--from-middle") l.from_middle)
    (flag_words (codes "--without-marks") l.without_marks) (codes "--" ∷ rest)) is

pub dashes-first : (chosen : Chosen) (ws rest r : List (List ℕ)) (word : List ℕ)
    → HasOptions ws chosen (codes "--" ∷ rest) → ws ≡ word ∷ r → Begins (codes "--") word
dashes-first chosen ws rest r word
    (well, has) is = part-first chosen.part chosen.with_pieces chosen.links ws rest r word has is

-- ---- words without a meaning

-- Two words with another first letter.
pub apart : (verb other : List ℕ) (m n : ℕ)
    → get_or verb 0 0 ≡ m → get_or other 0 0 ≡ n → (m ≡ n → ⊥) → verb ≢ other
apart verb other m n here there not same = not (sym here ∙ ap (λ (word : List ℕ). get_or word 0 0) same ∙ there)

-- No kind has a verb of this letter.
pub no-kind : (verb : List ℕ) (m : ℕ)
    → get_or verb 0 0 ≡ m → (m ≡ 108 → ⊥) → (m ≡ 98 → ⊥) → (m ≡ 114 → ⊥)
    → (kind : Kind) → verb ≢ kind_word kind
no-kind verb m here lot board reel Lot = apart verb (codes "lot") m 108 here refl lot
no-kind verb m here lot board reel Board = apart verb (codes "board") m 98 here refl board
no-kind verb m here lot board reel Reel = apart verb (codes "reel") m 114 here refl reel
no-kind verb m here lot board reel Reels = apart verb (codes "reels") m 114 here refl reel

-- Each kind has a verb of its own.
one-kind : (a b : Kind) → kind_word a ≡ kind_word b → a ≡ b
one-kind Lot Lot is = refl
one-kind Lot Board is = absurd (let e : 111 ≡ 103 = ap (λ (w : List ℕ). get_or w 0 0 + length w) is in omega
    (arith, e))
one-kind Lot Reel is = absurd (let e : 111 ≡ 118 = ap (λ (w : List ℕ). get_or w 0 0 + length w) is in omega
    (arith, e))
one-kind Lot Reels is = absurd (let e : 111 ≡ 119 = ap (λ (w : List ℕ). get_or w 0 0 + length w) is in omega
    (arith, e))
one-kind Board Lot is = absurd (let e : 103 ≡ 111 = ap (λ (w : List ℕ). get_or w 0 0 + length w) is in omega
    (arith, e))
one-kind Board Board is = refl
one-kind Board Reel is = absurd
    (let e : 103 ≡ 118 = ap (λ (w : List ℕ). get_or w 0 0 + length w) is in omega (arith, e))
one-kind Board Reels is = absurd
    (let e : 103 ≡ 119 = ap (λ (w : List ℕ). get_or w 0 0 + length w) is in omega (arith, e))
one-kind Reel Lot is = absurd (let e : 118 ≡ 111 = ap (λ (w : List ℕ). get_or w 0 0 + length w) is in omega
    (arith, e))
one-kind Reel Board is = absurd
    (let e : 118 ≡ 103 = ap (λ (w : List ℕ). get_or w 0 0 + length w) is in omega (arith, e))
one-kind Reel Reel is = refl
one-kind Reel Reels is = absurd
    (let e : 118 ≡ 119 = ap (λ (w : List ℕ). get_or w 0 0 + length w) is in omega (arith, e))
one-kind Reels Lot is = absurd (let e : 119 ≡ 111 = ap (λ (w : List ℕ). get_or w 0 0 + length w) is in omega
    (arith, e))
one-kind Reels Board is = absurd
    (let e : 119 ≡ 103 = ap (λ (w : List ℕ). get_or w 0 0 + length w) is in omega (arith, e))
one-kind Reels Reel is = absurd
    (let e : 119 ≡ 118 = ap (λ (w : List ℕ). get_or w 0 0 + length w) is in omega (arith, e))
one-kind Reels Reels is = refl

module _ (words rest : List (List ℕ)) (verb : List ℕ) (is : words ≡ verb ∷ rest) where
  same-verb : (other : List ℕ) (behind : List (List ℕ)) → words ≡ other ∷ behind → verb ≡ other
  same-verb other behind e = let both : verb ∷ rest ≡ other ∷ behind = sym is ∙ e in cc

  same-rest : (other : List ℕ) (behind : List (List ℕ)) → words ≡ other ∷ behind → behind ≡ rest
  same-rest other behind e = let both : verb ∷ rest ≡ other ∷ behind = sym is ∙ e in cc

  -- No question has these words.
  abbrev pub NoFiles : Type 0
  NoFiles = verb ≡ codes "check" → (links : Links) (paths : List (List ℕ)) → ¬ HasFiles rest links paths

  abbrev pub NoName : Type 0
  NoName = (whose : Whose) → verb ≡ kind_word (kind_of whose)
      → (word : List ℕ) (chosen : Chosen) (paths : List (List ℕ)) → ¬ HasName rest whose word chosen paths

  abbrev pub NoPair : Type 0
  NoPair = verb ≡ codes "alike" → (old new : List ℕ) → ¬ NameFiles rest (old ∷ new ∷ [])

  no-name : NoName → (whose : Whose) (word : List ℕ) (chosen : Chosen) (paths behind : List (List ℕ))
      → words ≡ kind_word (kind_of whose) ∷ behind → ¬ HasName behind whose word chosen paths
  no-name named whose word chosen paths behind e has =
      named whose (same-verb _ behind e) word chosen paths
      (subst (λ (ws : List (List ℕ)). HasName ws whose word chosen paths) (same-rest _ behind e) has)

  no-question : NoFiles → NoName → (asked : Asked) (word : List ℕ) (links : Links) (paths : List (List ℕ))
      → ¬ AsksOf words asked word links paths
  no-question files named Chain word links paths (none, behind, e, has) =
      files (same-verb _ behind e) links paths
      (subst (λ (ws : List (List ℕ)). HasFiles ws links paths) (same-rest _ behind e) has)
  no-question files named (Names whose) word links paths (part, asks) =
      no-name named whose word (record { part = part; with_pieces = false; links = links }) paths asks.0 asks.1 asks.2
  no-question files named (Pieces whose) word links paths (part, asks) =
      no-name named whose word (record { part = part; with_pieces = true; links = links }) paths asks.0 asks.1 asks.2

  pub nothing : NoFiles → NoName → NoPair
      → verb ≢ codes "--help" → verb ≢ codes "--version" → MeanNothing words
  nothing files named pair help version = (
    no-question files named,
    λ old new asks. pair (same-verb _ asks.0 asks.1) old new
        (subst (λ (ws : List (List ℕ)). NameFiles ws (old ∷ new ∷ [])) (same-rest _ asks.0 asks.1) asks.2),
    λ asks. help (same-verb _ asks.0 asks.1),
    λ asks. version (same-verb _ asks.0 asks.1),
  )

module _ (words rest : List (List ℕ)) where
  pub none-checked : words ≡ codes "check" ∷ rest
      → ((links : Links) (paths : List (List ℕ)) → ¬ HasFiles rest links paths) → MeanNothing words
  none-checked is none =
      let verb = codes "check" in
      nothing words rest verb is (λ same. none)
      (λ whose same. absurd (no-kind verb 99 refl (λ e. omega (arith, e)) (λ e. omega (arith, e))
      (λ e. omega (arith, e)) (kind_of whose) same))
      (λ same. absurd (apart verb (codes "alike") 99 97 refl refl (λ e. omega (arith, e)) same))
      (apart verb (codes "--help") 99 45 refl refl (λ e. omega (arith, e)))
      (apart verb (codes "--version") 99 45 refl refl (λ e. omega (arith, e)))

  pub none-compared : words ≡ codes "alike" ∷ rest
      → ((old new : List ℕ) → ¬ NameFiles rest (old ∷ new ∷ [])) → MeanNothing words
  none-compared is none =
      let verb = codes "alike" in
      nothing words rest verb is
      (λ same. absurd (apart verb (codes "check") 97 99 refl refl (λ e. omega (arith, e)) same))
      (λ whose same. absurd (no-kind verb 97 refl (λ e. omega (arith, e)) (λ e. omega (arith, e))
      (λ e. omega (arith, e)) (kind_of whose) same))
      (λ same. none)
      (apart verb (codes "--help") 97 45 refl refl (λ e. omega (arith, e)))
      (apart verb (codes "--version") 97 45 refl refl (λ e. omega (arith, e)))

  -- Of the verb of a question about pieces.
  pub none-named : (kind : Kind) → words ≡ kind_word kind ∷ rest
      → ((whose : Whose) (word : List ℕ) (chosen : Chosen) (paths : List (List ℕ)) → kind_of whose ≡ kind
      → ¬ HasName rest whose word chosen paths)
      → MeanNothing words
  none-named kind is none =
      nothing words rest (kind_word kind) is
      (λ same. absurd (no-kind (codes "check") 99 refl (λ e. omega (arith, e)) (λ e. omega (arith, e))
      (λ e. omega (arith, e)) kind (sym same)))
      (λ whose same word chosen paths. none whose word chosen paths (one-kind (kind_of whose) kind (sym same)))
      (λ same. absurd (no-kind (codes "alike") 97 refl (λ e. omega (arith, e)) (λ e. omega (arith, e))
      (λ e. omega (arith, e)) kind (sym same)))
      (λ same. absurd (no-kind (codes "--help") 45 refl (λ e. omega (arith, e)) (λ e. omega (arith, e))
      (λ e. omega (arith, e)) kind (sym same)))
      (λ same. absurd (no-kind (codes "--version") 45 refl (λ e. omega (arith, e)) (λ e. omega (arith, e))
      (λ e. omega (arith, e)) kind (sym same)))
