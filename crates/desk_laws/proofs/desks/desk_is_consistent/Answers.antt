use Rattle.desk_laws.proofs.Common.{judged-by-two}
use Rattle.desk_laws.proofs.{Balance.balance, InstalledPieces.rightly-placed, NameSets.traces-converse}
use Rattle.desk_laws.proofs.{Places.one-slot, Tapes.live-distinct}
use Rattle.desk_laws.proofs.desks.desk_is_consistent.Goals as goal

pub returns-clause-balance : goal.returns-clause-balance
returns-clause-balance g c = λ B reel stands.
    balance B.history reel (judged-by-two _ B.history (g.met.D.Desk.is_judged c.args.desk.now B stands))

pub returns-clause-one_place : goal.returns-clause-one_place
returns-clause-one_place g c = λ B m s machine slot reel stands.
    one-slot B.history m s machine slot reel (judged-by-two _ B.history (g.met.D.Desk.is_judged c.args.desk.now B stands))

pub returns-clause-once : goal.returns-clause-once
returns-clause-once g c = λ B machine slot stands.
    live-distinct B.history machine slot (judged-by-two _ B.history (g.met.D.Desk.is_judged c.args.desk.now B stands))

pub returns-clause-rightly_placed : goal.returns-clause-rightly_placed
returns-clause-rightly_placed g c = λ B stands.
    rightly-placed B.history (judged-by-two _ B.history (g.met.D.Desk.is_judged c.args.desk.now B stands))

pub returns-clause-traces : goal.returns-clause-traces
returns-clause-traces g c = λ B board lot stands. traces-converse B.history board lot
