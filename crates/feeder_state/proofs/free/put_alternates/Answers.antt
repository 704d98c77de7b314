use Rattle.desk_types.proofs.Common.{[], ◌++◌, ◌∙◌, ◌≡◌, ap, append-nil, flat_map, map, rules, sym}
use Rattle.feeder_state.{proofs.FreeReels.free_in, specs.Sets.names_at}
use Rattle.judging.specs.Turns.{turn_of}
use Rattle.feeder_state.proofs.free.put_alternates.Goals as goal

pub returns-in_ok-put_others : goal.returns-in_ok-put_others
returns-in_ok-put_others c = λ H names told are old.
    let of = names_at c.args.floor.now.resting in
    let part = c.args.part.now in
    let others : c.in-Some.others.now.keys ≡ names_at c.args.setup.now.alternates part = search rules in
    c.in_ok-put_others.ensures H names told are old ∙ ap (λ all. map (turn_of H) (free_in H part (names ++ flat_map of all))) others

pub returns-in_default : goal.returns-in_default
returns-in_default c = λ H names told are old.
    let of = names_at c.args.floor.now.resting in
    let part = c.args.part.now in
    let none : [] ≡ names_at c.args.setup.now.alternates part = search rules in
    old ∙ ap (λ all. map (turn_of H) (free_in H part all)) (sym (append-nil names) ∙ ap (λ all. names ++ flat_map of all) none)
