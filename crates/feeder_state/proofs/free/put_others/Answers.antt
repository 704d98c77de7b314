use Rattle.desk_types.proofs.Common.{[], ◌++◌, ◌∙◌, ◌∷◌, ap, append-nil, append_assoc, flat_map, map, rules, sym}
use Rattle.feeder_state.{proofs.FreeReels.free_in, specs.Sets.names_at}
use Rattle.judging.specs.Turns.{turn_of}
use Rattle.std.proofs.lemmas.List.{flat_map_more}
use Rattle.feeder_state.proofs.free.put_others.Goals as goal

pub loop-other-init : goal.loop-other-init
loop-other-init c = ([], search rules, λ H names told are old. old ∙ ap (λ all. map (turn_of H) (free_in H c.args.part.now all)) (sym (append-nil names)))

pub loop-other-preserved : goal.loop-other-preserved
loop-other-preserved c =
    let of = names_at c.args.floor.now.resting in
    let seen = c.loop-other.invariant.0 in
    let other = c.in-Some.other.now in (
      seen ++ other ∷ [],
      append_assoc seen (other ∷ []) c.next.new.self ∙ ap (λ rest. seen ++ rest) (sym c.in-Some.ensures.steps) ∙ c.loop-other.invariant.1,
      λ H names told are old.
          c.in_ok-put_part.ensures H (names ++ flat_map of seen) told are (c.loop-other.invariant.2 H names told are old)
          ∙ ap (λ all. map (turn_of H) (free_in H c.args.part.now all)) (flat_map_more of names seen other),
    )

pub returns : goal.returns
returns c = λ H names told are old.
    let of = names_at c.args.floor.now.resting in
    let seen = c.loop-other.invariant.0 in
    c.loop-other.invariant.2 H names told are old
    ∙ ap (λ all. map (turn_of H) (free_in H c.args.part.now (names ++ flat_map of all))) (sym (append-nil seen) ∙ ap (λ rest. seen ++ rest) (sym c.in-None.ensures.steps.0) ∙ c.loop-other.invariant.1)
