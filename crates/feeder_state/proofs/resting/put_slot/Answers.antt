use Rattle.desk_types.proofs.Common.{[], ◌||◌, ◌∙◌, ◌≡◌, ap, list_any, rules, same}
use Rattle.feeder_state.specs.{Resting.rests_at, Tape.tape_at}
use Rattle.feeder_state.proofs.resting.put_slot.Goals as goal

pub returns-in_ok-put_tape : goal.returns-in_ok-put_tape
returns-in_ok-put_tape c = λ r has.
    let tape : c.in-Some.tape.now ≡ tape_at c.args.tapes.now c.args.machine.now c.args.slot.now = search rules in
    c.in_ok-put_tape.ensures r has ∙ ap (λ reels. list_any (same r) reels || rests_at c.args.rows.now c.args.resting.now r) tape

pub returns-in_default : goal.returns-in_default
returns-in_default c = λ r has.
    let none : [] ≡ tape_at c.args.tapes.now c.args.machine.now c.args.slot.now = search rules in
    ap (λ reels. list_any (same r) reels || rests_at c.args.rows.now c.args.resting.now r) none
