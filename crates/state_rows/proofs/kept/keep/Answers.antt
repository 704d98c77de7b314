use Rattle.desk_types.proofs.Common.{[], ◌++◌, ◌∙◌, ◌∷◌, ◌≡◌, ap, BTreeMap, cond, List, Name, name-written}
use Rattle.desk_types.proofs.Common.{Option, rules, same, unwrap_or}
use Rattle.state_rows.{proofs.KeptUnderNames.one-more, specs.Lists.kept_at}
use Rattle.state_rows.proofs.kept.keep.Goals as goal

pub returns-in_ok-push-in-Some : goal.returns-in_ok-push-in-Some
returns-in_ok-push-in-Some g c = λ n.
    let h = c.get_mut.follows.holds c.push.new.self.items in
    let old = λ (name : Name). kept_at c.args.map.now name in
    let name = c.args.name.now in
    let now : c.push.new.self.items ≡ old name ++ c.args.thing ∷ [] =
    c.in_ok-push-in-Some.ensures.items ∙ ap (λ l. l ++ c.args.thing ∷ []) (c.kept.view_is ∙ ap (λ o. unwrap_or o []) c.in-Some.ensures.value) in
    name-written _ _ name _ (λ o. unwrap_or o []) ((h.3 (search rules)).0) n ∙ one-more name n old c.push.new.self.items c.args.thing now

pub returns-in_ok-insert-in-None : goal.returns-in_ok-insert-in-None
returns-in_ok-insert-in-None g c = λ n.
    let old = λ (name : Name). kept_at c.args.map.now name in
    let name = c.args.name.now in
    let now : c.push-in-None.new.self.items ≡ old name ++ c.args.thing ∷ [] =
    c.in_ok-push-in-None.ensures.items ∙ ap (λ l. l ++ c.args.thing ∷ []) (c.new-items.ensures.items ∙ ap (λ (o : Option (List g.row.T.Denot)). unwrap_or o []) c.in-None.ensures.value) in
    name-written _ _ name _ (λ o. unwrap_or o []) c.in_ok-insert-in-None.ensures.updates.0 n
    ∙ ap (λ (tree : BTreeMap Name (List g.row.T.Denot)). cond (same name n) c.push-in-None.new.self.items (kept_at tree n)) c.get_mut.follows.holds-at-none
    ∙ one-more name n old c.push-in-None.new.self.items c.args.thing now
