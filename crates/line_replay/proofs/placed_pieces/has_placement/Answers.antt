use Rattle.desk_types.proofs.Common.{IfOk-weaker}
use Rattle.line_replay.proofs.Texts.{placement_alone}
use Rattle.line_replay.proofs.placed_pieces.has_placement.Goals as goal

pub returns-clause-found : goal.returns-clause-found
returns-clause-found g c clean =
    let shown = rw (c.text.ensures, c.designator.ensures, c.in_ok-int.ensures, c.in_ok-int-2.ensures, c.in_ok-placement_values.ensures.ok) at (c.shows_only.ensures.shown clean) in
    IfOk-weaker c.shows_only.result _ _ (λ b h. placement_alone g.S.Store c.args.conn.now _ b c.args.row.now h) shown
