use Rattle.desk_types.proofs.Common.{IfOk-weaker}
use Rattle.line_tables.proofs.Common.{state}
use Rattle.line_traces.proofs.looked.add_run.Goals as goal

pub returns-clause-added : goal.returns-clause-added
returns-clause-added g c clean =
    let db = (state g.S.Store c.args.conn.now).committed in
    let shown = c.in_ok-rows.ensures.shown clean in
    IfOk-weaker c.add_rows.result _ _ (λ all adds. record { was_open = shown.was_open; are = λ schema is H both. adds is db H both (shown.are schema) })
    (rw c.as_slice.ensures.value at c.add_rows.ensures)
