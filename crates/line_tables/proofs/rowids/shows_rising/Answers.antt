use Rattle.desk_types.proofs.Common.{IfOk-weaker}
use Rattle.line_tables.proofs.rowids.shows_rising.Goals as goal

pub returns-clause-shown : goal.returns-clause-shown
returns-clause-shown g c clean = IfOk-weaker c.are_rising.result _ _ (λ b told. (c.in_ok-rows.rows.items, c.in_ok-rows.ensures.shown clean, told)) (rw c.as_slice.ensures.value at c.are_rising.ensures.ok)
