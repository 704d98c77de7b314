use Rattle.desk_types.proofs.Common.{[], ◌∙◌, ◌≡◌, ap, BTreeMap, cond, List, Name, name-written, Option}
use Rattle.desk_types.proofs.Common.{rules, same, unwrap_or}
use Rattle.state_rows.{proofs.KeptUnderNames.no-more, specs.Lists.kept_at}
use Rattle.state_rows.proofs.kept.make_room.Goals as goal

pub returns-in_err-reserve-in-Some : goal.returns-in_err-reserve-in-Some
returns-in_err-reserve-in-Some g c = λ n.
    let h = c.get_mut.follows.holds c.reserve.new.self.items in
    let old = λ (name : Name). kept_at c.args.map.now name in
    let name = c.args.name.now in
    let now : c.reserve.new.self.items ≡ old name = c.in_err-reserve-in-Some.ensures.items ∙ c.kept.view_is ∙ ap (λ o. unwrap_or o []) c.in-Some.ensures.value in
    name-written _ _ name _ (λ o. unwrap_or o []) ((h.3 (search rules)).0) n ∙ no-more name n old c.reserve.new.self.items now

pub returns-in_ok-reserve-in-Some : goal.returns-in_ok-reserve-in-Some
returns-in_ok-reserve-in-Some g c = λ n.
    let h = c.get_mut.follows.holds c.reserve.new.self.items in
    let old = λ (name : Name). kept_at c.args.map.now name in
    let name = c.args.name.now in
    let now : c.reserve.new.self.items ≡ old name = c.in_ok-reserve-in-Some.ensures.items ∙ c.kept.view_is ∙ ap (λ o. unwrap_or o []) c.in-Some.ensures.value in
    name-written _ _ name _ (λ o. unwrap_or o []) ((h.3 (search rules)).0) n ∙ no-more name n old c.reserve.new.self.items now

pub returns-in_ok-insert-in-None : goal.returns-in_ok-insert-in-None
returns-in_ok-insert-in-None g c = λ n.
    let old = λ (name : Name). kept_at c.args.map.now name in
    let name = c.args.name.now in
    let items = c.in_ok-items-in-None.items.items in
    let now : items ≡ old name = c.in_ok-items-in-None.ensures.items ∙ ap (λ (o : Option (List g.row.T.Denot)). unwrap_or o []) c.in-None.ensures.value in
    name-written _ _ name _ (λ o. unwrap_or o []) c.in_ok-insert-in-None.ensures.updates.0 n
    ∙ ap (λ (tree : BTreeMap Name (List g.row.T.Denot)). cond (same name n) items (kept_at tree n)) c.get_mut.follows.holds-at-none
    ∙ no-more name n old items now
