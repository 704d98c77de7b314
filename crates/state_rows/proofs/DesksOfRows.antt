-- The rows of boards, for the desk that has these rows.
use Rattle.desk_types.proofs.Common.{[], ◌↔◌, ◌∙◌, ◌≡◌, ap, board_row, Bool, both_ways, false, History}
use Rattle.desk_types.proofs.Common.{if◌then◌else◌, in_work_on, is_in_work, is_in_work_on, is_some, IsJudged}
use Rattle.desk_types.proofs.Common.{Name, None, Option, option_and_then, option_map, option_map_or}
use Rattle.desk_types.proofs.Common.{product_of, refl, same, same-refl, Some, sym, true, unwrap_or}
use Rattle.desk_types.proofs.Common.{work_machine}
use Rattle.desk_laws.proofs.Common.{BoardRow, Two}
use Rattle.desk_laws.proofs.Lookups.{in_work-somewhere, somewhere-in_work}
use Rattle.state_rows.proofs.BoardRows.{IsWorking, last_start, on-is, working}

-- ---- boards in work

-- The machine where a board is in work, by its row.
abbrev pub machine_in : Option BoardRow → Option Name
machine_in row = option_and_then (λ (r : BoardRow). r.machine) row

work-row : (H : History) (machine board : Name) → IsJudged Two H → in_work_on H machine ≡ Some board → machine_in (board_row H board) ≡ Some machine
work-row H machine board judged on =
    ap (λ o. machine_in (option_map (λ product. record { board = board; product = product; machine = work_machine H board }) o)) w.is_made
    ∙ ap (λ o. option_and_then (λ m. if is_in_work_on H m board then Some m else None) o) w.there
    ∙ ap (λ b. if b then Some machine else None) there
  where
    there : is_in_work_on H machine board ≡ true
    there = ap (λ o. option_map_or (same board) o false) on ∙ same-refl board

    w : IsWorking H machine board
    w = working H machine board judged there

row-work : (H : History) (machine board : Name) → machine_in (board_row H board) ≡ Some machine → in_work_on H machine ≡ Some board
row-work H machine board says = on-is (in_work_on H machine) board (by (product_of H board) says)
  where
    here : (m : Name) (b : Bool) → is_in_work_on H m board ≡ b → (if b then Some m else None) ≡ Some machine → is_in_work_on H machine board ≡ true
    here m true on is = ap (λ o. is_in_work_on H (unwrap_or o []) board) (sym is) ∙ on
    here m false on is = cc

    at : (last : Option Name) → option_and_then (λ m. if is_in_work_on H m board then Some m else None) last ≡ Some machine → is_in_work_on H machine board ≡ true
    at None is = cc
    at (Some m) is = here m (is_in_work_on H m board) refl is

    by : (product : Option Name) → machine_in (option_map (λ p. record { board = board; product = p; machine = work_machine H board }) product) ≡ Some machine
        → is_in_work_on H machine board ≡ true
    by None is = cc
    by (Some p) is = at (last_start H board) is

pub work-on_row : (H : History) (machine board : Name) → IsJudged Two H → (in_work_on H machine ≡ Some board) ↔ (machine_in (board_row H board) ≡ Some machine)
work-on_row H machine board judged = (work-row H machine board judged, row-work H machine board)

pub in_work-row : (H : History) (board : Name) → IsJudged Two H → is_in_work H board ≡ is_some (machine_in (board_row H board))
in_work-row H board judged =
    both_ways _ _ (λ is. let on = in_work-somewhere H board is in ap is_some (work-row H on.0 board judged on.1)) (back (machine_in (board_row H board)) refl)
  where
    back : (o : Option Name) → machine_in (board_row H board) ≡ o → is_some o ≡ true → is_in_work H board ≡ true
    back None says is = cc
    back (Some machine) says is = somewhere-in_work H board (machine, row-work H machine board says)
