use Rattle.desk_types.proofs.Common.{[], ◌||◌, ◌∙◌, ap, BTreeMap, cond, List, list_any, Name, name-written}
use Rattle.desk_types.proofs.Common.{Option, rules, same, unwrap_or}
use Rattle.feeder_state.{proofs.NameSets.placed-put, specs.Work.is_placed_at}
use Rattle.feeder_state.proofs.work.place.Goals as goal

pub returns-in_ok-add_all-in-Some : goal.returns-in_ok-add_all-in-Some
returns-in_ok-add_all-in-Some c = λ b d.
    let h = c.get_mut.follows.holds c.add_all.new.self in
    let old = λ (q : Name). is_placed_at c.args.placed.now q d in
    name-written _ _ c.args.board.now _ (λ o. list_any (same d) (unwrap_or o [])) ((h.3 (search rules)).0) b
    ∙ placed-put c.args.board.now b (list_any (same d) c.args.designators.now) _ old
    (c.in_ok-add_all-in-Some.ensures.ok d ∙ ap (λ o. list_any (same d) c.args.designators.now || list_any (same d) (unwrap_or o [])) c.in-Some.ensures.value)

pub returns-in_ok-insert-in-None : goal.returns-in_ok-insert-in-None
returns-in_ok-insert-in-None c = λ b d.
    let board = c.args.board.now in
    let put = list_any (same d) c.args.designators.now in
    let old = λ (q : Name). is_placed_at c.args.placed.now q d in
    let reader = λ (o : Option (List Name)). list_any (same d) (unwrap_or o []) in
    name-written _ _ board _ reader c.in_ok-insert-in-None.ensures.updates.0 b
    ∙ ap (λ (tree : BTreeMap Name (List Name)). cond (same board b) (list_any (same d) c.add_all-in-None.new.self) (is_placed_at tree b d)) c.get_mut.follows.holds-at-none
    ∙ placed-put board b put _ old
    (c.in_ok-add_all-in-None.ensures.ok d
    ∙ ap (λ names. put || list_any (same d) names) c.new-names.ensures
    ∙ ap (λ o. put || reader o) c.in-None.ensures.value)
