use Rattle.desk_types.proofs.Common.{◌++◌, ◌+◌, ◌∙◌, ap, drop, filter, reverse, sym, tape_of}
use Rattle.judging.proofs.Reels.{no-gap}
use Rattle.look_back.proofs.TapeLists.{has_pieces, live-all, live-passed, live-put}
use Rattle.look_back.proofs.tapes.live_on.Goals.{in-Some+else-left_of-gt0}
use Rattle.look_back.proofs.tapes.live_on.Goals.{in-Some+then-left_of-gt0+in_ok-push, in_default}
use Rattle.look_back.proofs.tapes.live_on.Goals as goal

pub loop-index-preserved : goal.loop-index-preserved
loop-index-preserved c =
    let H = reverse c.args.entries.now in
    let machine = c.args.machine.now in
    let slot = c.args.slot.now in
    let i = c.loop-index.index in
    let rest = filter (has_pieces H) (drop (i + 1) (tape_of H machine slot)) in
    elim c.match-reel_at.branch [
      | in-Some+then-left_of-gt0+in_ok-push w ↦ ap (λ v. v.items ++ rest) w.live-is
          ∙ ap (λ items. items ++ rest) w.in_ok-push.ensures.items
          ∙ live-put H machine slot i w.in-Some.reel c.loop-index.live.items (sym c.reel_at.ensures ∙ w.in-Some.is) w.left_of.result w.left_of.ensures
          w.if-left_of-gt0.true c.loop-index.invariant
      | in-Some+else-left_of-gt0 w ↦ ap (λ v. v.items ++ rest) w.live-is
          ∙ live-passed H machine slot i w.in-Some.reel c.loop-index.live.items (sym c.reel_at.ensures ∙ w.in-Some.is) w.left_of.result w.left_of.ensures
          w.if-left_of-gt0.false c.loop-index.invariant
      | in_default w ↦ absurd (no-gap (tape_of H machine slot) i c.reel_count-index-end.result c.reel_count-index-end.ensures c.loop-index-test.true
          (sym c.reel_at.ensures ∙ w.in_default.is))
    ]

pub returns : goal.returns
returns c =
    live-all (reverse c.args.entries.now) c.args.machine.now c.args.slot.now c.loop-index.index c.loop-index.live.items c.reel_count-index-end.result
    c.reel_count-index-end.ensures c.loop-index-test.false c.loop-index.invariant
