use Rattle.desk_types.proofs.Common.{◌<◌, ◌≡◌, get_or, length, rules}
use Rattle.feeder_state.{proofs.AtRest.put-next, specs.Resting.rests_at}
use Rattle.feeder_state.proofs.resting.put_tape.Goals as goal

pub loop-i-preserved : goal.loop-i-preserved
loop-i-preserved c = λ r has.
    let tape = c.args.tape.now in
    let x = c.index.result.now in
    let inside : c.loop-i.i < length tape = search rules in
    let is : x ≡ get_or tape c.loop-i.i x = search rules in
    put-next tape c.loop-i.i x r _ (rests_at c.args.rows.now c.loop-i.resting r) _ inside is (c.loop-i.invariant r has) (c.in_ok-put_reel.ensures r has)
