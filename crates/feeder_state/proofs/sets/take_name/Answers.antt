use Rattle.desk_types.proofs.Common.{◌∙◌, ap, Bool, by_name, cond, false, Name, name-written, Option}
use Rattle.desk_types.proofs.Common.{option_map_or, rules, same}
use Rattle.feeder_state.{proofs.NameSets.changed, proofs.NameSets.taken-absent, proofs.NameSets.taken-out}
use Rattle.feeder_state.specs.Sets.{is_name_at}
use Rattle.std.specs.BTreeSet.{BTreeSet, contains}
use Rattle.feeder_state.proofs.sets.take_name.Goals as goal

abbrev has_in : Name → Option (BTreeSet Name) → Bool
has_in n o = option_map_or (λ (names : BTreeSet Name). contains by_name names n) o false

pub returns-in-Some : goal.returns-in-Some
returns-in-Some c = λ k n.
    let key = c.args.key.now in
    let name = c.args.name.now in
    let h = c.get_mut.follows.holds c.remove.new.self in
    let old = λ (q : Name). is_name_at c.args.sets.now q n in
    name-written _ _ key _ (has_in n) ((h.3 (search rules)).0) k
    ∙ taken-out key k (same name n) _ old
    (changed name n _ _ false (c.remove.ensures.updates.0 n) ∙ ap (λ o. cond (same name n) false (has_in n o)) c.in-Some.ensures.value)

pub returns-in_default : goal.returns-in_default
returns-in_default c =
    let same_map = c.get_mut.follows.holds-at-none in
    rw same_map (λ k n. taken-absent c.args.key.now k (same c.args.name.now n) (λ q. is_name_at c.args.sets.now q n) (search rules))
