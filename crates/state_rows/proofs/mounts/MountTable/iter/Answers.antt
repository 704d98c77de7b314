use Rattle.desk_types.proofs.Common.{by_name, subst}
use Rattle.state_rows.{proofs.MountKeeping.lists-mounts, specs.Kept.ListsMounts, specs.Kept.row_at}
use Rattle.state_rows.proofs.mounts.MountTable.iter.Goals as goal

pub returns : goal.returns
returns c =
    subst (λ named. ListsMounts c.iter.result (row_at by_name named)) c.self.view_is
    (lists-mounts _ _ c.self.inside.by_reel.entries c.iter.ensures.rest c.iter.ensures.ordered c.iter.ensures.found c.self.invariant)
