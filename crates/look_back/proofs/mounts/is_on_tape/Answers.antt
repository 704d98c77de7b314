use Rattle.desk_types.proofs.Common.{◌∙◌, reverse, sym, tape_of}
use Rattle.judging.proofs.Reels.{no-gap}
use Rattle.look_back.proofs.TapeLists.{any-from}
use Rattle.look_back.proofs.mounts.is_on_tape.Goals.{in-Some+else-eq, in_default}
use Rattle.look_back.proofs.mounts.is_on_tape.Goals as goal

pub returns-then-eq : goal.returns-then-eq
returns-then-eq c =
    sym (any-from c.args.reel.now (tape_of (reverse c.args.entries.now) c.args.machine.now c.args.slot.now) c.loop-index.index c.in-Some.other _
    (sym c.reel_at.ensures ∙ c.in-Some.is) (sym c.eq.ensures ∙ c.if-eq.true)) ∙ c.loop-index.invariant

pub loop-index-preserved : goal.loop-index-preserved
loop-index-preserved c =
    let tape = tape_of (reverse c.args.entries.now) c.args.machine.now c.args.slot.now in
    elim c.match-reel_at.branch [
      | in-Some+else-eq w ↦ sym (any-from c.args.reel.now tape c.loop-index.index w.in-Some.other _ (sym c.reel_at.ensures ∙ w.in-Some.is) (sym w.eq.ensures ∙ w.if-eq.false))
          ∙ c.loop-index.invariant
      | in_default w ↦ absurd (no-gap tape c.loop-index.index c.reel_count-index-end.result c.reel_count-index-end.ensures c.loop-index-test.true
          (sym c.reel_at.ensures ∙ w.in_default.is))
    ]
