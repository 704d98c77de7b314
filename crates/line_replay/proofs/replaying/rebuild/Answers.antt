use Rattle.desk_types.proofs.Tabs.{texts_apart}
use Rattle.line_replay.proofs.RowsTellLists.{rows_tell}
use Rattle.desk_types.proofs.Common.{◌∙◌, ap, basis, History, length, subst, sym}
use Rattle.line_replay.{proofs.Committed.same_list, specs.Expected.AreKept}
use Rattle.state_rows.specs.Lists.{IsListed}
use Rattle.line_replay.proofs.replaying.rebuild.Goals as goal

pub returns-in-Ok-clause-same : goal.returns-in-Ok-clause-same
returns-in-Ok-clause-same g c G judged holds clean =
    let list = c.in-Ok.ensures.list in
    let same = same_list g.D.Desk.Stands c.args.rules c.args.greatest _ _ c.in-Ok.replayed.desk _ c.in-Ok.replayed.count list.0 G (rows_tell c.args.rules texts_apart) list.1 judged holds clean in (
      subst (λ (H : History). g.D.Desk.Stands c.in-Ok.replayed.desk (basis c.args.rules H)) same list.1.stands,
      sym list.1.counted ∙ ap length same,
      subst (IsListed c.in-Ok.replayed.lists) same list.2,
      subst (AreKept (g.D.KeepsRows.kept_rows c.in-Ok.replayed.desk)) same list.1.others.rows,
    )
