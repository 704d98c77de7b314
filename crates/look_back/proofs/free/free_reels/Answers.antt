use Rattle.desk_types.proofs.Common.{◌∙◌, ap, filter_map, Name, reel_view, reverse, take_all}
use Rattle.desk_laws.proofs.Common.{Left}
use Rattle.judging.proofs.FreeReels.{free_among, views-of_turns}
use Rattle.look_back.proofs.FreeReels.{told-next}
use Rattle.look_back.proofs.free.free_reels.Goals as goal

pub loop-turn-preserved : goal.loop-turn-preserved
loop-turn-preserved c =
    told-next (λ (t : Left × Name). reel_view (reverse c.args.entries.now) t.1) c.as_slice-turn-items.result.now c.loop-turn.turn-index c.turn-item.result
    c.loop-turn.views.items c.push_if.new.list.items c.reel_view.result
    c.loop-turn-test.true c.turn-item.is c.loop-turn.invariant c.reel_view.ensures c.in_ok-push_if.ensures

pub returns : goal.returns
returns c =
    let H = reverse c.args.entries.now in
    let items = c.as_slice-turn-items.result.now in
    let view = λ (t : Left × Name). reel_view H t.1 in
    c.new.ensures
    ∙ c.loop-turn.invariant
    ∙ ap (filter_map view) (take_all c.loop-turn.turn-index items c.loop-turn-test.false ∙ c.as_slice-turn-items.ensures.value ∙ c.in_ok-turns.ensures)
    ∙ views-of_turns H (free_among H c.args.part.now H)
