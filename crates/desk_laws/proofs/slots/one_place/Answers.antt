use Rattle.desk_laws.proofs.Common.{judged-by-two}
use Rattle.desk_laws.proofs.{Places.one-slot, Tapes.live-distinct}
use Rattle.desk_laws.proofs.slots.one_place.Goals as goal

pub returns-clause-one_slot : goal.returns-clause-one_slot
returns-clause-one_slot c = λ rules H m s machine slot reel judged. one-slot H m s machine slot reel (judged-by-two rules H judged)

pub returns-clause-once : goal.returns-clause-once
returns-clause-once c = λ rules H machine slot judged. live-distinct H machine slot (judged-by-two rules H judged)
