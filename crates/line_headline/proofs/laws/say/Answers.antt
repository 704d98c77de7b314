use Rattle.line_headline.proofs.CallsInTurn.{ends_as}
use Rattle.line_headline.specs.Calls.{Told}
use Rattle.line_headline.proofs.laws.say.Goals as goal

pub returns-clause-once : goal.returns-clause-once
returns-clause-once g c L was clean own =
    ends_as g.S.Store g.D.Desk.Stands c.args.store.now c.say.new.self L c.say.result
    (Told c.args.matter c.args.told.now) (c.say.ensures.said L was clean own)
