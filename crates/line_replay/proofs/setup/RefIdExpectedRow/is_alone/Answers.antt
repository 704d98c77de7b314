use Rattle.desk_types.proofs.Common.{IfOk-weaker}
use Rattle.line_replay.proofs.Texts.{part_alone}
use Rattle.line_replay.proofs.setup.RefIdExpectedRow.is_alone.Goals as goal

pub returns-clause-found : goal.returns-clause-found
returns-clause-found g c clean =
    let shown = rw (c.text.ensures, c.text-2.ensures) at (c.shows_only.ensures.shown clean) in
    IfOk-weaker c.shows_only.result _ _ (λ b h. part_alone g.S.Store c.args.conn.now _ b c.args.self.now h) shown
