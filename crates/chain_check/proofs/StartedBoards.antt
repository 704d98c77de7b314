-- Boards of a history, by their rows.
use Rattle.desk_types.proofs.Common.{◌∙◌, ◌≡◌, ap, board_row, Bool, false, History, in_work_on, is_in_work}
use Rattle.desk_types.proofs.Common.{is_some, IsJudged, Name, None, Option, option_map, product_of, refl}
use Rattle.desk_types.proofs.Common.{Some, true, work_machine}
use Rattle.desk_laws.proofs.Common.{BoardRow, is_started, IsIdle, Two}
use Rattle.desk_laws.proofs.FromAlike.{started-product, unstarted-product}
use Rattle.desk_laws.proofs.Lookups.{in_work-somewhere}
use Rattle.state_rows.proofs.DesksOfRows.{machine_in, work-on_row}

-- ---- boards in work

pub idle : (H : History) → IsJudged Two H → ((board : Name) → is_some (machine_in (board_row H board)) ≡ false) → IsIdle H
idle H judged off machine = by (in_work_on H machine) refl
  where
    by : (o : Option Name) → in_work_on H machine ≡ o → o ≡ None
    by None is = refl
    by (Some board) is = let on = ap is_some ((work-on_row H machine board judged).0 is) in let none = off board in cc

pub not-idle : (H : History) (board : Name) → is_in_work H board ≡ true → IsIdle H → ⊥
not-idle H board on none = let there = in_work-somewhere H board on in let absent = none there.0 in let has = there.1 in cc

-- ---- started boards

-- A board has a row if it was started.
pub started-row : (H : History) (board : Name) → IsJudged Two H → is_some (board_row H board) ≡ is_started H board
started-row H board judged = rows (product_of H board) ∙ by (is_started H board) refl
  where
    rows : (o : Option Name) → is_some {T = BoardRow} (option_map (λ p. record { board = board; product = p; machine = work_machine H board }) o) ≡ is_some o
    rows None = refl
    rows (Some p) = refl

    by : (b : Bool) → is_started H board ≡ b → is_some (product_of H board) ≡ b
    by true started = started-product H board judged started
    by false new = ap is_some (unstarted-product H board new)
