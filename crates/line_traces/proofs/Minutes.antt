-- The rows of `accepted` give the minutes of the entries. This meets the premise of the calls.
use Rattle.desk_types.proofs.Common.{[], ◌<◌, ◌∙◌, ◌∷◌, ◌≡◌, ◌≤◌, All-from_recursion, AllByRecursion, AllZip}
use Rattle.desk_types.proofs.Common.{ap, arith, Bool, false, filter, History, IsJudged, IsPermutation}
use Rattle.desk_types.proofs.Common.{IsPermutation-sym, length, List, pos, refl, subst, tables_of, true, ℕ}
use Rattle.desk_laws.proofs.Common.{Entry, Two}
use Rattle.line_tables.proofs.Common.{accepted_in, all_weaker, Binary, column, Database, equal, has_number}
use Rattle.line_tables.proofs.Common.{Int, IsPermutation-filter, one_permutation, Row}
use Rattle.line_tables.{proofs.Keyed.own_int, specs.StateRows.HoldsState}
use Rattle.line_traces.{proofs.Columns.one-int, specs.Committed.HoldsList, specs.Committed.TellsMinute}
use Rattle.sqlite_keyed.proofs.ListLemmas.{all_both}

-- The row has the entry's number and its effective minute.
abbrev pub IsRowOf : Entry → Row → Type 0
IsRowOf e row = (column row 0 ≡ Int (pos e.number)) × (column row 4 ≡ Int (pos e.effective))

-- Exactly one of the rows has the entry's number, and it is the entry's row.
abbrev IsAmong : List Row → Entry → Type 0
IsAmong rows e = (row : Row) × (filter (has_number e.number) rows ≡ row ∷ []) × (column row 4 ≡ Int (pos e.effective))

other-number : (row : Row) (e : Entry) (n : ℕ) → IsRowOf e row → (e.number ≡ n → ⊥) → has_number n row ≡ false
other-number row e n is other = by (has_number n row) refl
  where
    by : (b : Bool) → has_number n row ≡ b → has_number n row ≡ false
    by true there = absurd (other (one-int (column row 0) e.number n (ap (λ v. equal Binary v (Int (pos e.number))) is.0 ∙ own_int e.number) there))
    by false there = there

none-above : (H : History) (rows : List Row) → IsJudged Two H → AllZip IsRowOf H rows → (n : ℕ) → length H < n → filter (has_number n) rows ≡ []
none-above [] [] judged are n above = refl
none-above [] (r ∷ rows) judged are n above = absurd are
none-above (e ∷ H) [] judged are n above = absurd are
none-above (e ∷ H) (r ∷ rows) (next, judged) (is, are) n above =
    let at = next.number in
    rw (other-number r e n is (λ same. omega (arith, same, at, above))) (none-above H rows judged are n (omega (arith, above)))

numbers-within : (H : History) → IsJudged Two H → AllByRecursion (λ (e : Entry). e.number ≤ length H) H
numbers-within [] judged = tt
numbers-within (e ∷ H) (next, judged) =
    let at = next.number in (omega (arith, at), all_weaker (λ (x : Entry). x.number ≤ length H) (λ (x : Entry). x.number ≤ length (e ∷ H)) (λ x le. omega (arith, le)) H (numbers-within H judged))

each-among : (H : History) (rows : List Row) → IsJudged Two H → AllZip IsRowOf H rows → AllByRecursion (IsAmong rows) H
each-among [] rows judged are = tt
each-among (e ∷ H) [] judged are = absurd are
each-among (e ∷ H) (r ∷ rows) (next, judged) (is, are) =
    let at = next.number in
    let here : has_number e.number r ≡ true = ap (λ v. equal Binary v (Int (pos e.number))) is.0 ∙ own_int e.number in (
      (r, rw here (ap (λ l. r ∷ l) (none-above H rows judged are e.number (omega (arith, at)))), is.1),
      all_both (λ (x : Entry). x.number ≤ length H) (IsAmong rows) (IsAmong (r ∷ rows))
          (λ x within among. (among.0, rw (other-number r e x.number is (λ same. omega (arith, same, at, within))) among.1, among.2))
          H (numbers-within H judged) (each-among H rows judged are),
    )

-- Also gives the rows of `accepted`: those of the entries, in some order.
pub list-held : (db : Database) (H : History) (rows : List Row) → IsJudged Two H → IsPermutation (accepted_in db) rows → AllZip IsRowOf H rows → HoldsState db (tables_of H) → HoldsList db H
list-held db H rows judged same are state = record {
  judged = judged;
  minutes = All-from_recursion (TellsMinute db) H (all_weaker (IsAmong rows) (TellsMinute db) one H (each-among H rows judged are));
  state = state;
}
  where
    one : (e : Entry) → IsAmong rows e → TellsMinute db e
    one e among = record {
      row = among.0;
      only = one_permutation among.0 _ (IsPermutation-sym _ _ (subst (IsPermutation (filter (has_number e.number) (accepted_in db))) among.1 (IsPermutation-filter (has_number e.number) _ _ same)));
      minute = among.2;
    }
