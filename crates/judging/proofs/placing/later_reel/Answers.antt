use Rattle.desk_types.proofs.Common.{◌+◌, ◌∙◌, ◌≡◌, arith, left_of, lt-ltb, nat_lt, sym, true}
use Rattle.judging.proofs.Reels.{filter-here, filter-past, no-gap, spent}
use Rattle.judging.proofs.placing.later_reel.Goals.{in-Some+else-pieces-gt0, in_default}
use Rattle.judging.specs.Placing.{live_past}
use Rattle.judging.proofs.placing.later_reel.Goals as goal

pub returns-then-pieces-gt0-clause-live : goal.returns-then-pieces-gt0-clause-live
returns-then-pieces-gt0-clause-live g c = λ H stands.
    let reels = g.F.Facts.reels_on c.args.facts.now c.args.machine.now c.args.slot.now in
    let reel = c.in-Some.reel in
    let left = c.left_of-pieces.ensures H stands in
    let some : nat_lt 0 (left_of H reel) ≡ true = lt-ltb 0 (left_of H reel) (omega (arith, left, c.if-pieces-gt0.true)) in
    c.loop-place.invariant H stands ∙ filter-here (λ r. nat_lt 0 (left_of H r)) reels c.loop-place.place reel (sym c.reel_at.ensures ∙ c.in-Some.is) some

pub loop-place-preserved : goal.loop-place-preserved
loop-place-preserved g c = λ H stands.
    let reels = g.F.Facts.reels_on c.args.facts.now c.args.machine.now c.args.slot.now in
    let i = c.loop-place.place in
    let past : live_past (left_of H) reels (i + 1) ≡ live_past (left_of H) reels i =
    elim c.match-reel_at.branch as (λ _. live_past (left_of H) reels (i + 1) ≡ live_past (left_of H) reels i) [
      | in-Some+else-pieces-gt0 w ↦
          (let reel = w.in-Some.reel in
          let none = spent (left_of H reel) w.left_of-pieces.result (w.left_of-pieces.ensures H stands) w.if-pieces-gt0.false in
          filter-past (λ r. nat_lt 0 (left_of H r)) reels i reel (sym c.reel_at.ensures ∙ w.in-Some.is) none)
      | in_default w ↦ absurd (no-gap reels i c.reel_count-place-end.result c.reel_count-place-end.ensures c.loop-place-test.true (sym c.reel_at.ensures ∙ w.in_default.is))
    ] in
    c.loop-place.invariant H stands ∙ sym past
