use Rattle.desk_types.proofs.Common.{◌≡◌, arith, option_copied, rules, subst, true}
use Rattle.line_tables.proofs.Common.{HasCleanDisk, state}
use Rattle.line_tables.proofs.Keeps.{reads_before}
use Rattle.line_traces.proofs.TwoCalls.{there-told}
use Rattle.line_traces.specs.{Committed.FindsOfList, Pieces.is_lot, Pieces.pieces_of_lot}
use Rattle.line_traces.proofs.traces.lot_rows.Goals as goal

pub returns-clause-trace : goal.returns-clause-trace
returns-clause-trace g c clean =
    let old = state g.S.Store c.args.conn.now in
    let mid = state g.S.Store c.has_lot.new.conn in
    let first : HasCleanDisk mid = omega (arith, c.pieces_of_lot.ensures.reads.survives.clean) in
    let is : c.in_ok-has_lot.field-0 ≡ true = search rules in
    let named = subst (FindsOfList (λ H. is_lot H c.args.lot.now) old) is (c.in_ok-has_lot.ensures.found first) in
    there-told g.D.Desk.Stands (option_copied c.args.working) (λ H. pieces_of_lot H c.args.lot.now) old (λ H. is_lot H c.args.lot.now) _ named (
    reads_before old mid (c.has_lot.ensures.reads.kept first) _ (c.in_ok-pieces_of_lot.ensures.pieces clean))
