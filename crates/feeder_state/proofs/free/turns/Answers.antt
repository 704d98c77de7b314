use Rattle.desk_types.proofs.Common.{[], ◌∙◌, ap, map, sym}
use Rattle.feeder_state.{proofs.FreeReels.free-resting, proofs.FreeReels.in-part, specs.Sets.names_at}
use Rattle.judging.specs.Turns.{turn_of}
use Rattle.feeder_state.proofs.free.turns.Goals as goal

pub returns : goal.returns
returns c = λ H told floor setup are.
    let resting = c.args.floor.now.resting in
    let named = c.args.setup.now.alternates in
    let part = c.args.part.now in
    c.in_ok-put_alternates.ensures H (names_at resting part) told are (c.in_ok-put_part.ensures H [] told are c.new-turns.ensures.empty)
    ∙ ap (map (turn_of H)) (free-resting H part (names_at named part) resting told.are.judged floor.resting (λ q. sym (in-part named part q) ∙ setup.alternates part q))
