use Rattle.desk_types.proofs.Common.{◌∙◌, ap, by_name, insert_key, map, option_map_or, Ordering}
use Rattle.desk_types.proofs.Common.{ordering_then, reverse, sym, take, take-next}
use Rattle.desk_laws.proofs.Common.{Left}
use Rattle.desk_types.proofs.Lives.{left-order}
use Rattle.judging.{proofs.FreeReels.free_among, specs.Turns.by_life, specs.Turns.turn_of}
use Rattle.look_back.{proofs.FreeReels.turns-next, proofs.ReelsLater.reverse-last}
use Rattle.look_back.proofs.free.turns.Goals as goal

pub loop-entry-preserved : goal.loop-entry-preserved
loop-entry-preserved c =
    let entries = c.args.entries.now in
    let H = reverse entries in
    let i = c.loop-entry.entry-index in
    let e = c.entry-item.result in
    let keys = c.loop-entry.turns.keys in
    let so_far = take-next entries i e c.loop-entry-test.true c.entry-item.is in
    c.in_ok-insert_if.ensures
    ∙ ap (λ (by_left : Left → Left → Ordering). option_map_or (insert_key (λ a b. ordering_then (by_left a.0 b.0) (by_name a.1 b.1)) keys) c.turn_by.result keys) left-order
    ∙ ap (λ turn. option_map_or (insert_key by_life keys) turn keys) c.turn_by.ensures
    ∙ turns-next H (reverse (take i entries)) c.args.part.now e keys c.loop-entry.invariant
    ∙ ap (λ G. map (turn_of H) (free_among H c.args.part.now G)) (sym (reverse-last _ _ _ so_far))
