use Rattle.desk_types.proofs.Common.{IfOk-weaker}
use Rattle.line_replay.proofs.Texts.{found_alone}
use Rattle.line_replay.proofs.pieces.Tuple2RefIdRefU64ExpectedRow.is_alone.Goals as goal

pub returns-clause-found : goal.returns-clause-found
returns-clause-found g c clean =
    let shown = rw (c.text.ensures, c.text-2.ensures, c.in_ok-int.ensures) at (c.shows_only.ensures.shown clean) in
    IfOk-weaker c.shows_only.result _ _ (λ b h. found_alone g.S.Store c.args.conn.now _ b c.args.self.0.now h) shown
