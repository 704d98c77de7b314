use Rattle.desk_types.proofs.Common.{by_name, subst}
use Rattle.state_rows.specs.Kept.{KeptRows, ListsMounts, row_at}
use Rattle.state_rows.proofs.set.RowSet.mounts.Goals as goal

pub returns : goal.returns
returns c = subst (λ (kept : KeptRows). ListsMounts c.iter.result (row_at by_name kept.mounts)) c.self.view_is c.iter.ensures
