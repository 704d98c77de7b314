use Rattle.line_headline.proofs.CallsInTurn.{ends_as}
use Rattle.line_headline.specs.Calls.{Commanded}
use Rattle.line_headline.proofs.laws.command.Goals as goal

pub returns-clause-once : goal.returns-clause-once
returns-clause-once g c L was clean own =
    ends_as g.S.Store g.D.Desk.Stands c.args.store.now c.command.new.self L c.command.result
    (Commanded c.args.stamped.now) (c.command.ensures.answered L was clean own)
