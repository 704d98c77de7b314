-- Sheets that are made again from their rows.
use Rattle.desk_types.proofs.Common.{[], ◌&&◌, ◌++◌, ◌+◌, ◌==◌, ◌||◌, ◌∙◌, ◌∷◌, ◌≡◌, ◌≤◌, ap, arith, at_place}
use Rattle.desk_types.proofs.Common.{Bool, both_ways, cond, defines_on, eq-eqb, false, has_sheet, History}
use Rattle.desk_types.proofs.Common.{if◌then◌else◌, IsCommand, IsJudged, IsListLength, IsTotalOrder, length}
use Rattle.desk_types.proofs.Common.{List, list_any, ltb-false, ltb-true, Name, nat_cmp_total}
use Rattle.desk_types.proofs.Common.{nat_list_cmp_total, nat_lt, ne_eqb, None, on_total, Option}
use Rattle.desk_types.proofs.Common.{option_and_then, option_or, or_left, or_right, refl, same, same-refl}
use Rattle.desk_types.proofs.Common.{same-sym, same-true, sheet_by, sheet_of, slice_get, Some, SomeIff, subst}
use Rattle.desk_types.proofs.Common.{suc, sym, take, take-next, take_all, then_total, true, unwrap_or, zero}
use Rattle.desk_types.proofs.Common.{ℕ}
use Rattle.desk_laws.proofs.Common.{Command, SheetDefined, SheetRow, Two}
use Rattle.desk_types.specs.{Tables.sheet_row, declared.limits.TheConstants.LONGEST_LIST}
use Rattle.feeder_state.proofs.FilledMaps.{AreOf, each-of}
use Rattle.judging.proofs.Reels.{no-gap}
use Rattle.state_rows.proofs.RowLists.{is_at-by_sheet_place}
use Rattle.state_rows.specs.Kept.{by_sheet_place, Lists, row_at}
use Rattle.std.proofs.lemmas.Option.{get_or_from_slice_get, slice_get_within}

-- ---- the rows of one sheet, in turn

place-get : (n : ℕ) (rows : List SheetRow) (i : ℕ) → at_place n rows (n + i) ≡ slice_get rows i
place-get n [] i = refl
place-get n (r ∷ rs) zero = ap (λ b. if b then Some r else at_place (n + 1) rs (n + 0)) (eq-eqb n (n + 0) (omega arith))
place-get n (r ∷ rs) (suc i) =
    ap (λ b. if b then Some r else at_place (n + 1) rs (n + suc i)) (ne_eqb n (n + suc i) (λ is. omega (arith, is)))
    ∙ ap (at_place (n + 1) rs) (omega arith)
    ∙ place-get (n + 1) rs i

-- A sheet's row in a place, by the sheet's rows.
row-got : (H : History) (product machine : Name) (i : ℕ) → sheet_row H product machine (i + 1) ≡ slice_get (unwrap_or (sheet_of H product machine) []) i
row-got H product machine i = by (sheet_of H product machine)
  where
    by : (sheet : Option (List SheetRow)) → option_and_then (λ rows. at_place 1 rows (i + 1)) sheet ≡ slice_get (unwrap_or sheet []) i
    by None = refl
    by (Some rows) = ap (at_place 1 rows) (omega arith) ∙ place-get 1 rows i

pub row-more : (H : History) (product machine : Name) (i : ℕ) (row : SheetRow) → sheet_row H product machine (i + 1) ≡ Some row
    → take (i + 1) (unwrap_or (sheet_of H product machine) []) ≡ take i (unwrap_or (sheet_of H product machine) []) ++ row ∷ []
row-more H product machine i row is =
    let got = sym (row-got H product machine i) ∙ is in
    take-next (unwrap_or (sheet_of H product machine) []) i row (slice_get_within _ i row got) (sym (get_or_from_slice_get _ i row row got))

pub rows-end : (H : History) (product machine : Name) (i : ℕ) → sheet_row H product machine (i + 1) ≡ None
    → take i (unwrap_or (sheet_of H product machine) []) ≡ unwrap_or (sheet_of H product machine) []
rows-end H product machine i none = by (nat_lt i (length (unwrap_or (sheet_of H product machine) []))) refl
  where
    by : (b : Bool) → nat_lt i (length (unwrap_or (sheet_of H product machine) [])) ≡ b → take i (unwrap_or (sheet_of H product machine) []) ≡ unwrap_or (sheet_of H product machine) []
    by true is = absurd (no-gap _ i _ refl (ltb-true i _ is) (sym (row-got H product machine i) ∙ none))
    by false is = take_all i _ (ltb-false i _ is)

-- ---- all of a sheet's rows

-- An accepted sheet has as many rows as a list may have.
pub sheet-range : (H : History) (product machine : Name) (rows : List SheetRow) → IsJudged Two H → sheet_of H product machine ≡ Some rows → IsListLength (length rows)
sheet-range [] product machine rows judged is = cc
sheet-range (e ∷ H) product machine rows (next, judged) is = by (sheet_by product machine e.stamped.command) refl is (sheet-range H product machine rows judged)
  where
    given : (b : Bool) (rs : List SheetRow) → IsListLength (length rs) → (if b then Some rs else None) ≡ Some rows → IsListLength (length rows)
    given true rs few one = subst (λ xs. IsListLength (length xs)) (ap (λ o. unwrap_or o rs) one) few
    given false rs few one = cc

    named : (command : Command) → IsCommand command → sheet_by product machine command ≡ Some rows → IsListLength (length rows)
    named (SheetDefined p m rs) range one = given (same p product && same m machine) rs range.2.count one
    named _ range one = cc

    by : (said : Option (List SheetRow)) → sheet_by product machine e.stamped.command ≡ said → option_or said (sheet_of H product machine) ≡ Some rows
        → (sheet_of H product machine ≡ Some rows → IsListLength (length rows)) → IsListLength (length rows)
    by None says is before = before is
    by (Some rs) says is before = named e.stamped.command next.in_range.stamped.command (says ∙ is)

pub rows-all : (H : History) (product machine : Name) → IsJudged Two H → take LONGEST_LIST (unwrap_or (sheet_of H product machine) []) ≡ unwrap_or (sheet_of H product machine) []
rows-all H product machine judged = take_all LONGEST_LIST _ (by (sheet_of H product machine) refl)
  where
    by : (sheet : Option (List SheetRow)) → sheet_of H product machine ≡ sheet → length (unwrap_or sheet []) ≤ LONGEST_LIST
    by None says = omega arith
    by (Some rows) says = (sheet-range H product machine rows judged says).1

-- A list of all rows of a sheet, of the length that a list may have, is the sheet.
pub sheet-made : (H : History) (product machine : Name) (items : List SheetRow) (made : Option (List SheetRow)) → IsJudged Two H
    → items ≡ unwrap_or (sheet_of H product machine) [] → SomeIff made (IsListLength (length items)) items → made ≡ sheet_of H product machine
sheet-made H product machine items made judged all is = by (sheet_of H product machine) refl all made is
  where
    by : (sheet : Option (List SheetRow)) → sheet_of H product machine ≡ sheet → items ≡ unwrap_or sheet [] → (made : Option (List SheetRow))
        → SomeIff made (IsListLength (length items)) items → made ≡ sheet
    by None says all None is = refl
    by None says all (Some rows) (few, same) = let none : length items ≡ 0 = ap length all in absurd (omega (arith, none, few.0))
    by (Some rows) says all None none = absurd (none (subst (λ xs. IsListLength (length xs)) (sym all) (sheet-range H product machine rows judged says)))
    by (Some rows) says all (Some made) (few, same) = ap (λ xs. Some xs) (same ∙ all)

-- A sheet has a first row.
pub first-row : (H : History) (product machine : Name) → IsJudged Two H → option_and_then (λ row. sheet_of H product machine) (sheet_row H product machine 1) ≡ sheet_of H product machine
first-row H product machine judged = by (sheet_of H product machine) refl
  where
    by : (sheet : Option (List SheetRow)) → sheet_of H product machine ≡ sheet → option_and_then (λ (row : SheetRow). sheet) (option_and_then (λ rows. at_place 1 rows 1) sheet) ≡ sheet
    by None says = refl
    by (Some []) says = let few = sheet-range H product machine [] judged says in absurd (omega (arith, few.0))
    by (Some (r ∷ rs)) says = refl

-- The sheet is in the map, or its first row is left.
pub sheet-next : (sheet now new : Option (List SheetRow)) (here : Bool) (row : SheetRow) (left : Option SheetRow) → new ≡ (if here then option_or sheet now else now)
    → option_or now (option_and_then (λ (r : SheetRow). sheet) (cond here (Some row) left)) ≡ sheet → option_or new (option_and_then (λ (r : SheetRow). sheet) left) ≡ sheet
sheet-next sheet now new false row left is was = ap (λ o. option_or o (option_and_then (λ (r : SheetRow). sheet) left)) is ∙ was
sheet-next (Some rows) now new true row left is was = ap (λ o. option_or o (option_and_then (λ (r : SheetRow). Some rows) left)) is
sheet-next None (Some rows) new true row left is was = cc
sheet-next None None new true row left is was = ap (λ o. option_or o (option_and_then {T = SheetRow} {U = List SheetRow} (λ r. None) left)) is ∙ none left
  where
    none : (o : Option SheetRow) → option_and_then {T = SheetRow} {U = List SheetRow} (λ r. None) o ≡ None
    none None = refl
    none (Some r) = refl

-- ---- machines with a sheet

by_sheet_place-total : IsTotalOrder by_sheet_place
by_sheet_place-total =
    then_total (then_total (on_total (λ (k : Name × Name × ℕ). k.0) nat_list_cmp_total) (on_total (λ (k : Name × Name × ℕ). k.1) nat_list_cmp_total)) (on_total (λ (k : Name × Name × ℕ). k.2) nat_cmp_total)

sheet-has : (H : History) (product machine : Name) (rows : List SheetRow) → sheet_of H product machine ≡ Some rows → has_sheet H machine ≡ true
sheet-has [] product machine rows is = cc
sheet-has (e ∷ H) product machine rows is = by e.stamped.command is (sheet-has H product machine rows)
  where
    here : (a b : Bool) (rs : List SheetRow) → option_or (if a && b then Some rs else None) (sheet_of H product machine) ≡ Some rows
        → (sheet_of H product machine ≡ Some rows → has_sheet H machine ≡ true) → (b || has_sheet H machine) ≡ true
    here a true rs is before = refl
    here true false rs is before = before is
    here false false rs is before = before is

    by : (command : Command) → option_or (sheet_by product machine command) (sheet_of H product machine) ≡ Some rows → (sheet_of H product machine ≡ Some rows → has_sheet H machine ≡ true)
        → (defines_on machine command || has_sheet H machine) ≡ true
    by (SheetDefined p m rs) is before = here (same p product) (same m machine) rs is before
    by _ is before = before is

record HasSheet (H : History) (machine : Name) : Type 0 where
  product : Name
  rows : List SheetRow
  is : sheet_of H product machine ≡ Some rows

has-sheet : (H : History) (machine : Name) → has_sheet H machine ≡ true → HasSheet H machine
has-sheet [] machine has = cc
has-sheet (e ∷ H) machine has = by e.stamped.command refl has (has-sheet H machine)
  where
    over : (product : Name) (rows : List SheetRow) → sheet_of H product machine ≡ Some rows → (said : Option (List SheetRow)) → sheet_by product machine e.stamped.command ≡ said → HasSheet (e ∷ H) machine
    over product rows is None says = record { product = product; rows = rows; is = ap (λ o. option_or o (sheet_of H product machine)) says ∙ is }
    over product rows is (Some rs) says = record { product = product; rows = rs; is = ap (λ o. option_or o (sheet_of H product machine)) says }

    before : HasSheet H machine → HasSheet (e ∷ H) machine
    before sheet = over sheet.product sheet.rows sheet.is (sheet_by sheet.product machine e.stamped.command) refl

    here : (p m : Name) (rs : List SheetRow) → e.stamped.command ≡ SheetDefined p m rs → (b : Bool) → same m machine ≡ b → (b || has_sheet H machine) ≡ true
        → (has_sheet H machine ≡ true → HasSheet H machine) → HasSheet (e ∷ H) machine
    here p m rs command true one has rest = record {
      product = p;
      rows = rs;
      is = ap (λ c. option_or (sheet_by p machine c) (sheet_of H p machine)) command
          ∙ ap (λ b. option_or (if b && same m machine then Some rs else None) (sheet_of H p machine)) (same-refl p)
          ∙ ap (λ b. option_or (if b then Some rs else None) (sheet_of H p machine)) one;
    }
    here p m rs command false away has rest = before (rest has)

    by : (command : Command) → e.stamped.command ≡ command → (defines_on machine command || has_sheet H machine) ≡ true → (has_sheet H machine ≡ true → HasSheet H machine) → HasSheet (e ∷ H) machine
    by (SheetDefined p m rs) command has rest = here p m rs command (same m machine) refl has rest
    by _ command has rest = before (rest has)

abbrev pub is_for : Name → List ((Name × Name × ℕ) × SheetRow) → Bool
is_for machine entries = list_any (λ (e : (Name × Name × ℕ) × SheetRow). same e.0.1 machine) entries

row-has : (H : History) (machine : Name) (es : List ((Name × Name × ℕ) × SheetRow)) → AreOf (λ k. sheet_row H k.0 k.1 k.2) es → is_for machine es ≡ true → has_sheet H machine ≡ true
row-has H machine [] each some = cc
row-has H machine (e ∷ es) (first, each) some = by (same e.0.1 machine) refl some (row-has H machine es each)
  where
    of : (sheet : Option (List SheetRow)) → sheet_of H e.0.0 e.0.1 ≡ sheet → option_and_then (λ rows. at_place 1 rows e.0.2) sheet ≡ Some e.1 → has_sheet H e.0.1 ≡ true
    of None is found = cc
    of (Some rows) is found = sheet-has H e.0.0 e.0.1 rows is

    by : (b : Bool) → same e.0.1 machine ≡ b → (b || is_for machine es) ≡ true → (is_for machine es ≡ true → has_sheet H machine ≡ true) → has_sheet H machine ≡ true
    by true one some rest = ap (has_sheet H) (sym (same-true e.0.1 machine one)) ∙ of (sheet_of H e.0.0 e.0.1) refl first
    by false away some rest = rest some

found-for : (product machine : Name) (place : ℕ) (row : SheetRow) (es : List ((Name × Name × ℕ) × SheetRow)) → row_at by_sheet_place es (product, machine, place) ≡ Some row → is_for machine es ≡ true
found-for product machine place row [] is = cc
found-for product machine place row (e ∷ es) is =
    by (same product e.0.0) (same machine e.0.1) (place == e.0.2) (same-sym e.0.1 machine)
    (sym (ap (λ b. cond b (Some e.1) (row_at by_sheet_place es (product, machine, place))) (is_at-by_sheet_place (product, machine, place) e.0)) ∙ is)
    (found-for product machine place row es)
  where
    by : (a b c : Bool) → same e.0.1 machine ≡ b → cond (a && b && c) (Some e.1) (row_at by_sheet_place es (product, machine, place)) ≡ Some row
        → (row_at by_sheet_place es (product, machine, place) ≡ Some row → is_for machine es ≡ true) → is_for machine (e ∷ es) ≡ true
    by a true c on is rest = or_left (same e.0.1 machine) (is_for machine es) on
    by true false c on is rest = or_right (same e.0.1 machine) (is_for machine es) (rest is)
    by false false c on is rest = or_right (same e.0.1 machine) (is_for machine es) (rest is)

pub rows-for : (H : History) (machine : Name) (es : List ((Name × Name × ℕ) × SheetRow)) → IsJudged Two H → Lists by_sheet_place es (λ k. sheet_row H k.0 k.1 k.2)
    → is_for machine es ≡ has_sheet H machine
rows-for H machine es judged lists = both_ways _ _ (row-has H machine es (each-of by_sheet_place by_sheet_place-total es (λ k. sheet_row H k.0 k.1 k.2) lists)) (λ has. back (has-sheet H machine has))
  where
    back : HasSheet H machine → is_for machine es ≡ true
    back sheet = by sheet.rows sheet.is (sheet-range H sheet.product machine sheet.rows judged sheet.is)
      where
        by : (rows : List SheetRow) → sheet_of H sheet.product machine ≡ Some rows → IsListLength (length rows) → is_for machine es ≡ true
        by [] is few = absurd (omega (arith, few.0))
        by (r ∷ rs) is few = found-for sheet.product machine 1 r es (lists.rows (sheet.product, machine, 1) ∙ ap (λ o. option_and_then (λ rows. at_place 1 rows 1) o) is)
