use Rattle.line_headline.proofs.CallsInTurn.{ends_as}
use Rattle.line_headline.specs.Calls.{Heard}
use Rattle.line_headline.proofs.laws.hear.Goals as goal

pub returns-clause-once : goal.returns-clause-once
returns-clause-once g c L was clean own =
    ends_as g.S.Store g.D.Desk.Stands c.args.store.now c.answer.new.self L c.answer.result (Heard c.args.told.now)
    (c.answer.ensures.answered L was clean own)
