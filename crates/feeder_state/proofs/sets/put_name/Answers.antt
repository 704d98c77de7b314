use Rattle.desk_types.proofs.Common.{◌||◌, ◌∙◌, ap, Bool, BTreeMap, by_name, cond, false, is_at, list_any}
use Rattle.desk_types.proofs.Common.{Name, name-written, Option, option_map_or, rules, same}
use Rattle.feeder_state.{proofs.NameSets.placed-put, proofs.NameSets.put, specs.Sets.is_name_at}
use Rattle.std.specs.BTreeSet.{BTreeSet, contains}
use Rattle.feeder_state.proofs.sets.put_name.Goals as goal

abbrev has_in : Name → Option (BTreeSet Name) → Bool
has_in n o = option_map_or (λ (names : BTreeSet Name). contains by_name names n) o false

pub returns-in_ok-insert-in-Some : goal.returns-in_ok-insert-in-Some
returns-in_ok-insert-in-Some c = λ k n.
    let key = c.args.key.now in
    let name = c.args.name in
    let h = c.get_mut.follows.holds c.insert.new.self in
    let old = λ (q : Name). is_name_at c.args.sets.now q n in
    name-written _ _ key _ (has_in n) ((h.3 (search rules)).0) k
    ∙ placed-put key k (same name n) _ old
    (put name n _ _ (c.in_ok-insert-in-Some.ensures.updates.0 n) ∙ ap (λ o. same name n || has_in n o) c.in-Some.ensures.value)

pub returns-in_ok-insert-in-None-2 : goal.returns-in_ok-insert-in-None-2
returns-in_ok-insert-in-None-2 c = λ k n.
    let key = c.args.key.now in
    let name = c.args.name in
    let old = λ (q : Name). is_name_at c.args.sets.now q n in
    name-written _ _ key _ (has_in n) c.in_ok-insert-in-None-2.ensures.updates.0 k
    ∙ ap (λ (tree : BTreeMap Name (BTreeSet Name)). cond (same key k) (contains by_name c.insert-in-None.new.self n) (is_name_at tree k n)) c.get_mut.follows.holds-at-none
    ∙ placed-put key k (same name n) _ old
    (put name n _ _ (c.in_ok-insert-in-None.ensures.updates.0 n)
    ∙ ap (λ all. same name n || list_any (is_at (by_name n)) all) c.new-names.ensures.empty
    ∙ ap (λ o. same name n || has_in n o) c.in-None.ensures.value)
