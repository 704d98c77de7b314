use Rattle.desk_types.proofs.Common.{◌∙◌, ap, by_name, cond, None, same, Some}
use Rattle.state_rows.{proofs.MountKeeping.put-over, specs.Kept.row_at}
use Rattle.state_rows.proofs.mounts.MountTable.put.Goals as goal

pub returns : goal.returns
returns c = λ r.
    c.in_ok-put_both.ensures.put r
    ∙ put-over c.args.row.now.reel r (Some c.args.row.now) _ _ (c.take_both.ensures.taken r ∙ ap (λ named. cond (same c.args.row.now.reel r) None (row_at by_name named r)) c.self.view_is)
