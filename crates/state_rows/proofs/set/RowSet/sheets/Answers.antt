use Rattle.desk_types.proofs.Common.{ap}
use Rattle.state_rows.{proofs.RowLists.lists, specs.Kept.by_sheet_place, specs.Kept.tables_in}
use Rattle.state_rows.proofs.set.RowSet.sheets.Goals as goal

pub returns : goal.returns
returns c = lists by_sheet_place _ _ _ c.iter.ensures.rest c.iter.ensures.ordered (λ k. ap (λ kept. (tables_in kept).sheets k.0 k.1 k.2) c.self.view_is)
