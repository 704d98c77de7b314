-- Accepted histories are consistent.
use Rattle.desk_types.proofs.Common.{History, IsJudged}
use Rattle.desk_laws.proofs.Common.{judged-by-two, Rules}
use Rattle.desk_laws.proofs.{Balance.balance, InstalledPieces.rightly-placed, NameSets.traces-converse}
use Rattle.desk_laws.proofs.{Places.one-slot, Tapes.live-distinct}
use Rattle.desk_laws.specs.Consistent.{IsConsistent}

pub consistent : (rules : Rules) (H : History) → IsJudged rules H → IsConsistent H
consistent rules H judged =
    let two = judged-by-two rules H judged in
    record {
      balance = λ reel. balance H reel two;
      one_slot = λ m s machine slot reel here there. one-slot H m s machine slot reel two here there;
      once = λ machine slot. live-distinct H machine slot two;
      rightly_placed = rightly-placed H two;
      converse = traces-converse H;
    }
