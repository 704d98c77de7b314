use Rattle.desk_types.proofs.Common.{ap, map, option_copied, same, subst, sym}
use Rattle.line_tables.proofs.Common.{state}
use Rattle.line_traces.proofs.LookedPieces.{listed-told}
use Rattle.line_traces.specs.{Pieces.pieces_of_lot, Working.FindsOfBoth}
use Rattle.state_rows.specs.Lists.{key_of}
use Rattle.line_traces.proofs.by_lists.pieces_of_lot.Goals as goal

pub returns-in-Some-2-clause-pieces : goal.returns-in-Some-2-clause-pieces
returns-in-Some-2-clause-pieces g c clean =
    let old = state g.S.Store c.args.conn.now in
    let working = c.in-Some.working.now in
    subst (λ w. FindsOfBoth g.D.Desk.Stands w (λ H. pieces_of_lot H c.args.lot.now) old c.in-Some-2.pieces) (sym (ap option_copied c.in-Some.is)) (
    listed-told g.D.Desk.Stands working old (λ p. same p.lot c.args.lot.now) (map key_of c.of_lot-keys.result.now) (λ H listed. c.of_lot-keys.ensures.listed H listed) c.in-Some-2.pieces (rw c.in-Some-2.is at (c.in_ok-pieces.ensures.told clean)))
