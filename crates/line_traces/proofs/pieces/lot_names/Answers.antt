use Rattle.desk_types.proofs.Common.{boards_of, IfOk-weaker}
use Rattle.line_tables.proofs.Common.{state}
use Rattle.line_traces.proofs.{BoardsOf.finds-names, TwoCalls.names-told}
use Rattle.line_traces.proofs.pieces.lot_names.Goals as goal

pub returns-clause-names : goal.returns-clause-names
returns-clause-names g c clean =
    let shown = finds-names c.args.lot.now g.S.Store c.args.conn.now _ (rw c.as_bytes.ensures.value at (c.in_ok-rows.ensures.shown clean)) in
    IfOk-weaker c.names.result _ _ (λ names is. names-told (λ H. boards_of H c.args.lot.now) (state g.S.Store c.args.conn.now) _ names shown is) (rw c.as_slice.ensures.value at c.names.ensures)
