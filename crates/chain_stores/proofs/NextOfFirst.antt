-- The row of the number that follows a first part of a history is that of its next entry.
use Rattle.desk_types.proofs.Common.{[], ◌++◌, ◌+◌, ◌<◌, ◌∙◌, ◌∷◌, ◌≡◌, ap, arith, Basis, Bool, false, filter}
use Rattle.desk_types.proofs.Common.{History, if◌then◌else◌, ints, IsJudged, IsPermutation}
use Rattle.desk_types.proofs.Common.{IsPermutation-refl, IsPrefix, length, length-append, List, nat_tests}
use Rattle.desk_types.proofs.Common.{pos, refl, subst, sym, true, ℕ}
use Rattle.desk_laws.proofs.Common.{Entry, Rules, Two}
use Rattle.line_tables.proofs.Common.{accepted_in, filter_none, has_number, Int, IsPermutation-filter}
use Rattle.line_tables.proofs.Common.{one_permutation, Row, State, value_cmp, value_cmp-Int}
use Rattle.chain_stores.specs.First.{HoldsHistory, TakesNext}
use Rattle.line_replay.{proofs.RowsOfLists.none_numbered, specs.Rows.entry_row, specs.Rows.rows_of}
use Rattle.line_tables.proofs.Keyed.{number_test}
use Rattle.std.proofs.Common.{Greater, is_eq}

-- ---- numbers

higher_cmp : (m n : ℕ) → n < m → value_cmp (Int (pos m)) (Int (pos n)) ≡ Greater
higher_cmp m n h = value_cmp-Int (pos m) (pos n) ∙ grind (arith, ints, nat_tests)

higher_number : (n : ℕ) (G : History) (e : Entry) → n < e.number → has_number n (entry_row G e) ≡ false
higher_number n G e high = number_test e.number n ∙ ap is_eq (higher_cmp e.number n high)

none_left : (rules : Rules) (P : History) → IsJudged rules P → filter (has_number (length P + 1)) (rows_of P) ≡ []
none_left rules P judged = filter_none (has_number (length P + 1)) (rows_of P) (none_numbered rules P (length P + 1) judged (omega arith))

-- ---- the next entry

-- The entry of a history behind its first part, with its row.
pub record NextIn (rules : Rules) (P G : History) (row : Row) : Type 0 where
  pub entry : Entry
  pub judged : IsJudged rules (entry ∷ P)
  pub prefix : IsPrefix (entry ∷ P) G
  pub is : row ≡ entry_row P entry

module _ (rules : Rules) (P : History) (row : Row) where
  n : ℕ
  n = length P + 1

  pub next-in : (later : List Entry) → IsJudged rules (later ++ P) → filter (has_number (length P + 1)) (rows_of (later ++ P)) ≡ row ∷ [] → NextIn rules P (later ++ P) row
  next-in [] judged found = absurd (let both = sym (none_left rules P judged) ∙ found in cc)
  next-in (e ∷ []) judged found = by (has_number (length P + 1) (entry_row P e)) found
    where
      by : (b : Bool) → (if b then entry_row P e ∷ filter (has_number (length P + 1)) (rows_of P) else filter (has_number (length P + 1)) (rows_of P)) ≡ row ∷ [] → NextIn rules P (e ∷ P) row
      by true is = record { entry = e; judged = judged; prefix = ([], refl); is = cc }
      by false is = absurd (let both = sym (none_left rules P judged.1) ∙ is in cc)
  next-in (e ∷ f ∷ later) judged found =
      let long : e.number ≡ length (f ∷ later ++ P) + 1 = judged.0.number in
      let sum : length (later ++ P) ≡ length later + length P = length-append later P in
      let not : has_number (length P + 1) (entry_row (f ∷ later ++ P) e) ≡ false = higher_number (length P + 1) (f ∷ later ++ P) e (omega (arith, long, sum)) in
      let rest = filter (has_number (length P + 1)) (rows_of (f ∷ later ++ P)) in
      let it = next-in (f ∷ later) judged.1 (ap (λ b. if b then entry_row (f ∷ later ++ P) e ∷ rest else rest) (sym not) ∙ found) in
      record { entry = it.entry; judged = it.judged; prefix = (e ∷ it.prefix.0, ap (λ (l : List Entry). e ∷ l) it.prefix.1); is = it.is }

-- ---- one more command

abbrev pub RowsTell : Rules → Type 0
RowsTell rules = (G H : History) → IsJudged rules G → IsJudged rules H → IsPermutation (rows_of G) (rows_of H) → G ≡ H

pub next-prefix : {D : Type 0} (F : D → Basis → Type 0) (rules : Rules) (Clean : Type 0) (old : State) (P : History) (desk : D) → RowsTell rules → IsJudged rules P
    → (takes : TakesNext F rules Clean old P desk) → (greatest : ℕ) (G : History) → HoldsHistory rules old greatest G → Clean → IsPrefix P G → IsPrefix (takes.entry ∷ P) G
next-prefix F rules Clean old P desk tell judged takes greatest G holds clean prefix =
    let read = takes.row clean in
    let tables = holds.tables read.was_open in
    let row = entry_row P takes.entry in
    let found : filter (has_number (length P + 1)) (accepted_in old.committed) ≡ row ∷ [] = read.are (record { rules = Two; layout = tables.indexed; same = tables.schema }) in
    let same : filter (has_number (length P + 1)) (rows_of G) ≡ row ∷ [] =
    one_permutation row (filter (has_number (length P + 1)) (rows_of G)) (subst (λ (l : List Row). IsPermutation l (filter (has_number (length P + 1)) (rows_of G))) found (IsPermutation-filter (has_number (length P + 1)) (accepted_in old.committed) (rows_of G) tables.accepted)) in
    let it = next-in rules P row prefix.0 (subst (IsJudged rules) prefix.1 holds.judged) (ap (λ (H : History). filter (has_number (length P + 1)) (rows_of H)) (sym prefix.1) ∙ same) in
    let rows : rows_of (takes.entry ∷ P) ≡ rows_of (it.entry ∷ P) = ap (λ (r : Row). r ∷ rows_of P) it.is in
    let one : takes.entry ∷ P ≡ it.entry ∷ P = tell (takes.entry ∷ P) (it.entry ∷ P) (takes.next, judged) it.judged (subst (IsPermutation (rows_of (takes.entry ∷ P))) rows (IsPermutation-refl (rows_of (takes.entry ∷ P)))) in
    subst (λ (X : History). IsPrefix X G) (sym one) (subst (IsPrefix (it.entry ∷ P)) (sym prefix.1) it.prefix)
