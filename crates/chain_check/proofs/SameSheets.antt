-- Sheets of a history, by the rows of the table.
use Rattle.desk_types.proofs.Common.{[], ◌&&◌, ◌==◌, ◌∙◌, ◌∷◌, ◌≡◌, AllByRecursion, ap, arith, at_place, Bool}
use Rattle.desk_types.proofs.Common.{CmpEqualImpliesEq, eqb-true, false, History, is_eq, is_some, IsJudged}
use Rattle.desk_types.proofs.Common.{IsListLength, length, List, Name, None, Option, option_and_then, refl}
use Rattle.desk_types.proofs.Common.{same, same-true, sheet_of, Some, sym, Tables, tables_of, true, ℕ}
use Rattle.desk_laws.proofs.Common.{SheetRow, Two}
use Rattle.chain_check.proofs.Covered.{covered-rows}
use Rattle.desk_types.specs.Tables.{sheet_row}
use Rattle.feeder_state.proofs.RestoredSheets.{sheet-range}
use Rattle.state_rows.proofs.RowLists.{is_at-by_sheet_place}
use Rattle.state_rows.specs.Kept.{by_sheet_place, KeptRows, Lists, tables_in, unnumbered}

-- A sheet whose first row has this key is the same in both histories.
abbrev pub SameSheet : History → History → Name × Name × ℕ → Type 0
SameSheet H H' k = k.2 ≡ 1 → sheet_of H k.0 k.1 ≡ sheet_of H' k.0 k.1

three : (a b c : Bool) → (a && b && c) ≡ true → (a ≡ true) × (b ≡ true) × (c ≡ true)
three true true true is = (refl, refl, refl)
three true true false is = cc
three true false c is = cc
three false b c is = cc

exact : CmpEqualImpliesEq by_sheet_place
exact a b is =
    let at = three (same a.0 b.0) (same a.1 b.1) (a.2 == b.2) (sym (is_at-by_sheet_place a b) ∙ ap is_eq is) in
    λ j. (same-true a.0 b.0 at.0 j, same-true a.1 b.1 at.1 j, eqb-true a.2 b.2 at.2 j)

first-row : (H : History) (product machine : Name) → IsJudged Two H → is_some (sheet_of H product machine) ≡ true → is_some (sheet_row H product machine 1) ≡ true
first-row H product machine judged some = by (sheet_of H product machine) refl some
  where
    at : (rows : List SheetRow) → IsListLength (length rows) → is_some (at_place 1 rows 1) ≡ true
    at [] range = absurd (omega (arith, range.0))
    at (row ∷ rows) range = refl

    by : (o : Option (List SheetRow)) → sheet_of H product machine ≡ o → is_some o ≡ true → is_some (option_and_then (λ rows. at_place 1 rows 1) o) ≡ true
    by None is some = cc
    by (Some rows) is some = at rows (sheet-range H product machine rows judged is)

-- Every sheet has a first row.
pub covered-sheets : (G H H' : History) (rows : KeptRows) (es : List ((Name × Name × ℕ) × SheetRow)) (product machine : Name) → IsJudged Two G
    → unnumbered (tables_in rows) ≡ unnumbered (tables_of G) → Lists by_sheet_place es (λ k. (tables_in rows).sheets k.0 k.1 k.2)
    → AllByRecursion (λ (e : (Name × Name × ℕ) × SheetRow). SameSheet H H' e.0) es → is_some (sheet_of G product machine) ≡ true
    → sheet_of H product machine ≡ sheet_of H' product machine
covered-sheets G H H' rows es product machine judged is lists all some =
    covered-rows by_sheet_place exact (SameSheet H H') es (product, machine, 1) all
    (ap is_some (lists.rows (product, machine, 1)) ∙ ap (λ (t : Tables). is_some (t.sheets product machine 1)) is ∙ first-row G product machine judged some) refl
