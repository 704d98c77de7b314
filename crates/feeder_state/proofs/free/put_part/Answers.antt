use Rattle.desk_types.proofs.Common.{[], ◌++◌, ◌∙◌, ◌≡◌, ap, append-nil, map, rules, sym}
use Rattle.feeder_state.{proofs.FreeReels.free_in, specs.Sets.names_at}
use Rattle.judging.specs.Turns.{turn_of}
use Rattle.feeder_state.proofs.free.put_part.Goals as goal

pub returns-in_ok-put_turns : goal.returns-in_ok-put_turns
returns-in_ok-put_turns c = λ H names told are old.
    let reels : c.in-Some.reels.now.keys ≡ names_at c.args.floor.now.resting c.args.used.now = search rules in
    c.in_ok-put_turns.ensures H names told are old ∙ ap (λ all. map (turn_of H) (free_in H c.args.part.now (names ++ all))) reels

pub returns-in_default : goal.returns-in_default
returns-in_default c = λ H names told are old.
    let none : [] ≡ names_at c.args.floor.now.resting c.args.used.now = search rules in
    old ∙ ap (λ all. map (turn_of H) (free_in H c.args.part.now all)) (sym (append-nil names) ∙ ap (λ all. names ++ all) none)
