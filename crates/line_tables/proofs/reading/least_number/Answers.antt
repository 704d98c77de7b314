use Rattle.desk_types.proofs.Common.{refl}
use Rattle.line_tables.proofs.Common.{accepted_columns}
use Rattle.line_tables.proofs.{FindTexts.select_least_is, Numbers.finds_least_in}
use Rattle.line_tables.specs.declared.reading.TheConstants.{SELECT_LEAST}
use Rattle.line_tables.proofs.reading.least_number.Goals as goal

pub returns-clause-least : goal.returns-clause-least
returns-clause-least g c clean =
    finds_least_in g.S.Store SELECT_LEAST.now 1 _ select_least_is accepted_columns (λ r. refl) c.args.conn.now _ c.least_of.result (rw c.as_slice.ensures.value at c.least_of.ensures.ok) (c.in_ok-rows.ensures.shown clean)
