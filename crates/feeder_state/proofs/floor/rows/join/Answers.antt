use Rattle.desk_types.proofs.Common.{[], ◌&&◌, ◌++◌, ◌∙◌, ◌∷◌, ◌≡◌, ap, BTreeMap, cond, List, Name}
use Rattle.desk_types.proofs.Common.{pair-changed, pair-written, rules, same, sym, unwrap_or}
use Rattle.feeder_state.specs.Tape.{tape_at}
use Rattle.feeder_state.proofs.floor.rows.join.Goals as goal

pub returns-in-Some : goal.returns-in-Some
returns-in-Some c = λ m s.
    let row = c.args.row.now in
    let h = c.get_mut.follows.holds c.push_back.new.self.items in
    pair-written _ _ (row.machine, row.slot) _ (λ o. unwrap_or o []) ((h.3 (search rules)).0) m s
    ∙ pair-changed _ _ (tape_at c.args.tapes.now) (λ reels. reels ++ row.reel ∷ []) (row.machine, row.slot)
    (sym (ap (λ o. unwrap_or o []) c.in-Some.ensures.value)) (search rules) m s

pub returns : goal.returns
returns c = λ m s.
    let row = c.args.row.now in
    let none : tape_at c.args.tapes.now row.machine row.slot ≡ [] = search rules in
    let put : row.reel ∷ [] ≡ c.push_back-2.new.self.items = search rules in
    pair-written _ _ (row.machine, row.slot) _ (λ o. unwrap_or o []) c.in_ok-insert.ensures.updates.0 m s
    ∙ ap (λ (map : BTreeMap (Name × Name) (List Name)). cond (same row.machine m && same row.slot s) c.push_back-2.new.self.items (tape_at map m s)) c.get_mut.follows.holds-at-none
    ∙ pair-changed _ _ (tape_at c.args.tapes.now) (λ reels. reels ++ row.reel ∷ []) (row.machine, row.slot) none put m s
