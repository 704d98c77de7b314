use Rattle.desk_types.proofs.Common.{◌∙◌, ap, filter_map, Name, reel_view, subst, sym}
use Rattle.desk_laws.proofs.Common.{Left}
use Rattle.feeder_state.{proofs.FloorTells.none-free, specs.Rows.AreRowsAt}
use Rattle.judging.proofs.FreeReels.{free_among, views-of_turns}
use Rattle.feeder_state.proofs.free.free_reels.Goals as goal

pub returns-in_default : goal.returns-in_default
returns-in_default c = λ H told floor setup are. c.new-in_default.ensures ∙ c.new.ensures.items ∙ none-free H c.args.part.now (sym told.minute_is ∙ c.in_default.is)

pub returns : goal.returns
returns c = λ H told floor setup are.
    let now = subst (λ m. AreRowsAt H m c.args.rows.now) c.in-Some.is told in
    c.new-2.ensures
    ∙ c.in_ok-views.ensures H now
    ∙ ap (filter_map (λ (turn : Left × Name). reel_view H turn.1)) (c.in_ok-turns.ensures H now floor setup are)
    ∙ views-of_turns H (free_among H c.args.part.now H)
