use Rattle.desk_types.proofs.Common.{ap}
use Rattle.state_rows.{proofs.RowLists.lists, specs.Kept.by_piece, specs.Kept.tables_in}
use Rattle.state_rows.proofs.set.RowSet.placements.Goals as goal

pub returns : goal.returns
returns c = lists by_piece _ _ _ c.iter.ensures.rest c.iter.ensures.ordered (λ k. ap (λ kept. (tables_in kept).placements k.0 k.1) c.self.view_is)
