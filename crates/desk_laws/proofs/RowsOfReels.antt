-- A reel's row in a history: the floor life that it tells, and the view that it makes.
use Rattle.desk_types.proofs.Common.{[], ◌&&◌, ◌∙◌, ◌∷◌, ◌≡◌, ◌≤◌, ap, arith, Bool, columns_of, false}
use Rattle.desk_types.proofs.Common.{found_of, History, if◌then◌else◌, is_baked, is_mounted, is_six}
use Rattle.desk_types.proofs.Common.{IsCommand, IsJudged, left_of, life_left, limit_of, Name, None, not}
use Rattle.desk_types.proofs.Common.{Option, option_and_then, option_map, option_map_or, option_or}
use Rattle.desk_types.proofs.Common.{out_since, receipt_by, receipt_of, reel_row, reel_view, refl, same, Some}
use Rattle.desk_types.proofs.Common.{subst, sym, true, unwrap_or, view_of, ℕ}
use Rattle.desk_laws.proofs.Common.{Command, Receipt, ReelReceived, ReelRow, Two}
use Rattle.desk_laws.proofs.{Balance.unreceived-empty, Exposed.used-then, Exposures.exposure-within}
use Rattle.desk_types.proofs.Lives.{label-below}
use Rattle.desk_types.specs.{Row.IsRowIfAny, Row.IsRowOf, Tables.view_with}
use Rattle.desk_types.specs.{declared.limits.TheConstants.GREATEST_LABEL}

-- ---- the label

given : (name : Name) (b : Bool) (x receipt : Receipt) → x.moisture.label ≤ GREATEST_LABEL
    → (if b then Some x else None) ≡ Some receipt → receipt.moisture.label ≤ GREATEST_LABEL
given name true x receipt few one =
    let label = ap (λ o. option_map_or (λ (r : Receipt). r.moisture.label) o 0) one in
    omega (arith, few, label)
given name false x receipt few one = cc

named : (name : Name) (minute : ℕ) (receipt : Receipt) (command : Command) → IsCommand command
    → receipt_by name minute command ≡ Some receipt → receipt.moisture.label ≤ GREATEST_LABEL
named name minute receipt (ReelReceived r part lot moisture quantity) range one =
    given name (same r name) _ receipt (label-below moisture.level moisture.label range.3) one
named name minute receipt _ range one = cc

label-range : (H : History) (name : Name) (receipt : Receipt) → IsJudged Two H
    → receipt_of H name ≡ Some receipt → receipt.moisture.label ≤ GREATEST_LABEL
label-range [] name receipt judged is = cc
label-range (e ∷ H) name receipt (next, judged) is =
    by (receipt_by name e.effective e.stamped.command) refl is (label-range H name receipt judged)
  where
    by : (said : Option Receipt) → receipt_by name e.effective e.stamped.command ≡ said
        → option_or said (receipt_of H name) ≡ Some receipt
        → (receipt_of H name ≡ Some receipt → receipt.moisture.label ≤ GREATEST_LABEL)
        → receipt.moisture.label ≤ GREATEST_LABEL
    by None says is before = before is
    by (Some x) says is before =
        named name e.effective receipt e.stamped.command next.in_range.stamped.command (says ∙ is)

-- ---- the row

row-with : (H : History) (name : Name) (receipt : Receipt) → IsJudged Two H
    → receipt_of H name ≡ Some receipt → IsRowOf H name (columns_of (view_of H name receipt))
row-with H name receipt judged is = record {
  receipt = receipt;
  is = is;
  row_is = refl;
  part = refl;
  lot = refl;
  remaining = refl;
  limit = ap (option_and_then (λ (r : Receipt). limit_of r.moisture.level r.moisture.label)) (sym is);
  unbaked =
      ap (λ o. option_map_or (λ (r : Receipt). is_six r.moisture.level) o false && not (is_baked H name))
      (sym is);
  exposure = λ minute le.
      let all = used-then H name minute (out_since H name) judged refl le in
      let few = exposure-within H name minute in
      (sym all, omega (arith, all, few));
  label = label-range H name receipt judged is;
}

pub row-none : (H : History) (name : Name) → reel_row H name ≡ None → receipt_of H name ≡ None
row-none H name none = by (receipt_of H name) none
  where
    by : (said : Option Receipt) → option_map columns_of (option_map (view_of H name) said) ≡ None
        → said ≡ None
    by None none = refl
    by (Some receipt) none = cc

pub row-told : (H : History) (name : Name) (said : Option ReelRow) → IsJudged Two H
    → said ≡ reel_row H name → IsRowIfAny H name said
row-told H name None judged is = row-none H name (sym is)
row-told H name (Some row) judged is = by (receipt_of H name) refl is
  where
    by : (said : Option Receipt) → receipt_of H name ≡ said
        → Some row ≡ option_map columns_of (option_map (view_of H name) said) → IsRowOf H name row
    by None says is = cc
    by (Some receipt) says is =
        subst (IsRowOf H name) (ap (λ o. unwrap_or o row) (sym is)) (row-with H name receipt judged says)

-- ---- what the row says

pub left-said : (H : History) (name : Name) (said : Option ReelRow) → IsJudged Two H
    → said ≡ reel_row H name → option_map_or (λ (r : ReelRow). r.remaining) said 0 ≡ left_of H name
left-said H name said judged is =
    ap (λ o. option_map_or (λ (r : ReelRow). r.remaining) o 0) is ∙ by (receipt_of H name) refl
  where
    by : (said : Option Receipt) → receipt_of H name ≡ said
        → option_map_or (λ (r : ReelRow). r.remaining)
        (option_map columns_of (option_map (view_of H name) said)) 0 ≡ left_of H name
    by None none = sym (unreceived-empty H name judged none)
    by (Some receipt) says = refl

pub row-view : (H : History) (name : Name) (row : ReelRow) → IsRowOf H name row
    → reel_view H name ≡ Some (view_with row (found_of H name) (life_left H name) (is_mounted H name))
row-view H name row of =
    ap (option_map (view_of H name)) of.is
    ∙ ap (λ r. Some (view_with r (found_of H name) (life_left H name) (is_mounted H name))) (sym of.row_is)
