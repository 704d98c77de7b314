use Rattle.desk_types.proofs.Common.{[], ◌++◌, ◌∙◌, ◌∷◌, ap, append-nil, append_assoc, by_name, insert_key}
use Rattle.desk_types.proofs.Common.{map, option_map_or, Ordering, ordering_then, rules, sym}
use Rattle.desk_laws.proofs.Common.{Left}
use Rattle.desk_types.proofs.Lives.{left-order}
use Rattle.feeder_state.proofs.FreeReels.{free_in, turn-next}
use Rattle.judging.specs.Turns.{by_life, turn_of}
use Rattle.feeder_state.proofs.free.put_turns.Goals as goal

pub loop-name-init : goal.loop-name-init
loop-name-init c = ([], search rules, λ H names told are old. old ∙ ap (λ all. map (turn_of H) (free_in H c.args.part.now all)) (sym (append-nil names)))

pub loop-name-preserved : goal.loop-name-preserved
loop-name-preserved c =
    let seen = c.loop-name.invariant.0 in
    let name = c.in-Some.name.now in
    let keys = c.loop-name.turns.keys in (
      seen ++ name ∷ [],
      append_assoc seen (name ∷ []) c.next.new.self ∙ ap (λ rest. seen ++ rest) (sym c.in-Some.ensures.steps) ∙ c.loop-name.invariant.1,
      λ H names told are old.
          c.in_ok-insert_if.ensures
          ∙ ap (λ (by_left : Left → Left → Ordering). option_map_or (insert_key (λ a b. ordering_then (by_left a.0 b.0) (by_name a.1 b.1)) keys) c.turn_at.result keys) left-order
          ∙ ap (λ turn. option_map_or (insert_key by_life keys) turn keys) (c.turn_at.ensures H told are)
          ∙ turn-next H c.args.part.now (names ++ seen) name keys (c.loop-name.invariant.2 H names told are old)
          ∙ ap (λ all. map (turn_of H) (free_in H c.args.part.now all)) (append_assoc names seen (name ∷ [])),
    )

pub returns : goal.returns
returns c = λ H names told are old.
    let seen = c.loop-name.invariant.0 in
    c.loop-name.invariant.2 H names told are old
    ∙ ap (λ all. map (turn_of H) (free_in H c.args.part.now (names ++ all))) (sym (append-nil seen) ∙ ap (λ rest. seen ++ rest) (sym c.in-None.ensures.steps.0) ∙ c.loop-name.invariant.1)
