use Rattle.desk_types.proofs.Common.{◌∙◌, ap, sym}
use Rattle.feeder_state.specs.{Resting.rests_at, Resting.resting_after, Tape.tape_at}
use Rattle.feeder_state.proofs.resting.note_resting.Goals as goal

pub returns-in_ok-put_slot-in-MaterialsUnloaded : goal.returns-in_ok-put_slot-in-MaterialsUnloaded
returns-in_ok-put_slot-in-MaterialsUnloaded c = λ r has.
    let before = rests_at c.args.rows.now c.args.resting.now r in
    c.in_ok-put_slot-in-MaterialsUnloaded.ensures r has
    ∙ ap (λ command. resting_after (tape_at c.args.tapes.now) r command before) (sym c.in-MaterialsUnloaded.is)
