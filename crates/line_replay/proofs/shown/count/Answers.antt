use Rattle.line_replay.proofs.Texts.{counted}
use Rattle.line_replay.proofs.shown.count.Goals as goal

pub returns-clause-counted : goal.returns-clause-counted
returns-clause-counted g c clean =
    counted g.S.Store c.args.conn.now c.args.table _ (rw c.count_text.ensures at (c.in_ok-rows.ensures.shown clean)) c.count_of.result (rw c.as_slice.ensures.value at c.count_of.ensures.row) c.count_of.ensures.below
