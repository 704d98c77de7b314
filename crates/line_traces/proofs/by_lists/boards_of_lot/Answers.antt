use Rattle.desk_types.proofs.Common.{◌∙◌, ap, boards_of, map, option_copied, same, set_of, subst, sym}
use Rattle.desk_laws.proofs.Common.{Placement}
use Rattle.line_tables.proofs.Common.{state}
use Rattle.line_traces.proofs.LookedPieces.{boards-told, listed-told}
use Rattle.line_traces.specs.Working.{FindsOfBoth}
use Rattle.state_rows.specs.Lists.{key_of}
use Rattle.line_traces.proofs.by_lists.boards_of_lot.Goals as goal

pub returns-in_ok-boards_among-in-Some-2-clause-boards : goal.returns-in_ok-boards_among-in-Some-2-clause-boards
returns-in_ok-boards_among-in-Some-2-clause-boards g c clean =
    let old = state g.S.Store c.args.conn.now in
    let working = c.in-Some.working.now in
    let lot = c.args.lot.now in
    let pieces = c.in-Some-2.pieces in
    let boards = c.in_ok-boards_among-in-Some-2.field-0 in
    subst (λ w. FindsOfBoth g.D.Desk.Stands w (λ H. boards_of H lot) old boards) (sym (ap option_copied c.in-Some.is)) (
    boards-told g.D.Desk.Stands working old lot pieces boards (c.in_ok-boards_among-in-Some-2.ensures ∙ ap (λ ps. set_of (map (λ (p : Placement). p.board) ps)) c.as_slice.ensures) (
    listed-told g.D.Desk.Stands working old (λ p. same p.lot lot) (map key_of c.of_lot.result.now) (λ H listed. c.of_lot.ensures.listed H listed) pieces (rw c.in-Some-2.is at (c.in_ok-pieces.ensures.told clean))))
