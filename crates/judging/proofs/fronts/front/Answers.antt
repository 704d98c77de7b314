use Rattle.desk_types.proofs.Common.{rules}
use Rattle.judging.proofs.fronts.front.Goals as goal

pub returns-in_err-feed : goal.returns-in_err-feed
returns-in_err-feed g c = let t = g.met.F.Facts.tells_live c.args.facts.now in search rules

pub returns : goal.returns
returns g c = let t = g.met.F.Facts.tells_live c.args.facts.now in search rules
