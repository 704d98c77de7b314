use Rattle.desk_types.proofs.Common.{[], ◌∙◌, ◌∷◌, ◌≡◌, ap, arith, left_of, lt-ltb, nat_lt, option_map_or}
use Rattle.desk_types.proofs.Common.{sym, true}
use Rattle.judging.proofs.Reels.{filter-gap, filter-here}
use Rattle.judging.specs.{Placing.live_past, declared.placing.Feed.Feed}
use Rattle.judging.proofs.placing.next_reel.Goals as goal

pub returns-in_err-reel-clause-live : goal.returns-in_err-reel-clause-live
returns-in_err-reel-clause-live g c = λ H stands.
    let reels = g.F.Facts.reels_on c.args.facts.now c.args.machine.now c.args.slot.now in
    filter-gap (λ r. nat_lt 0 (left_of H r)) reels c.args.past (sym c.in_err-reel.ensures)
    ∙ sym (ap (λ o. option_map_or (λ (feed : Feed). feed.reel ∷ live_past (left_of H) reels feed.passed) o []) c.from_residual.ensures)

pub returns-clause-live : goal.returns-clause-live
returns-clause-live g c = λ H stands.
    let reels = g.F.Facts.reels_on c.args.facts.now c.args.machine.now c.args.slot.now in
    let reel = c.in_ok-reel.reel in
    let left = c.left_of-pieces.ensures H stands in
    let some : nat_lt 0 (left_of H reel) ≡ true = lt-ltb 0 (left_of H reel) (omega (arith, left, c.if-pieces-eq0.false)) in
    filter-here (λ r. nat_lt 0 (left_of H r)) reels c.args.past reel (sym c.in_ok-reel.ensures) some
