use Rattle.line_headline.proofs.CallsInTurn.{calls_in_turn}
use Rattle.line_headline.proofs.kills_leave_both_lists.Goals as goal

pub returns : goal.returns
returns g c calls L M =
    calls_in_turn g.S.Store g.D.Desk.Stands c.args.first.now calls L M c.args.last.now
