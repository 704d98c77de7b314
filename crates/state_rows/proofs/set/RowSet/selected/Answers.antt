use Rattle.desk_types.proofs.Common.{ap, by_name}
use Rattle.state_rows.{proofs.RowLists.lists, specs.Kept.tables_in}
use Rattle.state_rows.proofs.set.RowSet.selected.Goals as goal

pub returns : goal.returns
returns c = lists by_name _ _ _ c.iter.ensures.rest c.iter.ensures.ordered (λ r. ap (λ kept. (tables_in kept).selected r) c.self.view_is)
