use Rattle.desk_types.proofs.Common.{◌≡◌, arith, option_copied, rules, subst, true}
use Rattle.line_tables.proofs.Common.{HasCleanDisk, state}
use Rattle.line_tables.proofs.Keeps.{reads_before}
use Rattle.line_traces.proofs.TwoCalls.{there-told}
use Rattle.line_traces.specs.{Committed.FindsOfList, Pieces.is_board, Pieces.pieces_on}
use Rattle.line_traces.proofs.traces.board_rows.Goals as goal

pub returns-clause-trace : goal.returns-clause-trace
returns-clause-trace g c clean =
    let old = state g.S.Store c.args.conn.now in
    let mid = state g.S.Store c.has_board.new.conn in
    let first : HasCleanDisk mid = omega (arith, c.pieces_of_board.ensures.reads.survives.clean) in
    let is : c.in_ok-has_board.field-0 ≡ true = search rules in
    let named = subst (FindsOfList (λ H. is_board H c.args.board.now) old) is (c.in_ok-has_board.ensures.found first) in
    there-told g.D.Desk.Stands (option_copied c.args.working) (λ H. pieces_on H c.args.board.now) old (λ H. is_board H c.args.board.now) _ named (
    reads_before old mid (c.has_board.ensures.reads.kept first) _ (c.in_ok-pieces_of_board.ensures.pieces clean))
