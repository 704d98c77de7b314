-- Tables of two histories, by rows.
use Rattle.desk_types.proofs.Common.{◌∙◌, ◌≡◌, ap, board_row, false, History, is_in_work, is_some, IsJudged}
use Rattle.desk_types.proofs.Common.{Name, option_and_then, sym, Tables, tables_of, true}
use Rattle.desk_laws.proofs.Common.{BoardRow, is_started, IsIdle, Two}
use Rattle.chain_check.{proofs.StartedBoards.idle, proofs.StartedBoards.started-row, specs.Tables.machine_at}
use Rattle.state_rows.{proofs.DesksOfRows.in_work-row, proofs.DesksOfRows.machine_in, specs.Kept.KeptRows}
use Rattle.state_rows.{specs.Kept.tables_in, specs.Kept.unnumbered}

-- Values that are the same in two tables are the same in their histories, and the other way.
module _ (H H' : History) (old new : KeptRows) (is : unnumbered (tables_in old) ≡ unnumbered (tables_of H)) (is' : unnumbered (tables_in new) ≡ unnumbered (tables_of H')) where
  pub over : {X : Type 0} (read : Tables → X) → read (unnumbered (tables_in old)) ≡ read (unnumbered (tables_in new)) → read (unnumbered (tables_of H)) ≡ read (unnumbered (tables_of H'))
  over read same = sym (ap read is) ∙ same ∙ ap read is'

  pub back : {X : Type 0} (read : Tables → X) → read (unnumbered (tables_of H)) ≡ read (unnumbered (tables_of H')) → read (unnumbered (tables_in old)) ≡ read (unnumbered (tables_in new))
  back read same = ap read is ∙ same ∙ sym (ap read is')

-- ---- work

machine-is : (H : History) (rows : KeptRows) (board : Name) → unnumbered (tables_in rows) ≡ unnumbered (tables_of H) → machine_at rows board ≡ machine_in (board_row H board)
machine-is H rows board is = ap (λ (t : Tables). option_and_then (λ (r : BoardRow). r.machine) (t.boards board)) is

pub rows-idle : (H : History) (rows : KeptRows) → IsJudged Two H → unnumbered (tables_in rows) ≡ unnumbered (tables_of H)
    → ((board : Name) → is_some (machine_at rows board) ≡ false) → IsIdle H
rows-idle H rows judged is off = idle H judged (λ board. sym (ap is_some (machine-is H rows board is)) ∙ off board)

pub rows-working : (H : History) (rows : KeptRows) (board : Name) → IsJudged Two H → unnumbered (tables_in rows) ≡ unnumbered (tables_of H)
    → is_some (machine_at rows board) ≡ true → is_in_work H board ≡ true
rows-working H rows board judged is on = in_work-row H board judged ∙ sym (ap is_some (machine-is H rows board is)) ∙ on

pub started-is : (H : History) (rows : KeptRows) (board : Name) → IsJudged Two H → unnumbered (tables_in rows) ≡ unnumbered (tables_of H)
    → is_some ((tables_in rows).boards board) ≡ is_started H board
started-is H rows board judged is = ap (λ (t : Tables). is_some (t.boards board)) is ∙ started-row H board judged
