use Rattle.desk_types.proofs.Common.{IfOk-weaker}
use Rattle.line_replay.proofs.Texts.{mount_alone}
use Rattle.line_replay.proofs.floor.Tuple2RefTuple2U64IdRefMountRowExpectedRow.is_alone.Goals as goal

pub returns-clause-found : goal.returns-clause-found
returns-clause-found g c clean =
    let shown = rw (c.text.ensures, c.in_ok-mount_values.ensures.ok) at (c.shows_only.ensures.shown clean) in
    IfOk-weaker c.shows_only.result _ _ (λ b h. mount_alone g.S.Store c.args.conn.now _ b c.args.self.0.now.1 h) shown
