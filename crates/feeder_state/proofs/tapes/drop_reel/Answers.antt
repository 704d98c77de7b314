use Rattle.desk_types.proofs.Common.{[], ◌&&◌, ◌∙◌, ◌≡◌, ap, not, pair-changed, pair-written, rules, same}
use Rattle.desk_types.proofs.Common.{sym, unwrap_or}
use Rattle.feeder_state.proofs.ReelsOffTapes.{drop-absent, drop-there}
use Rattle.feeder_state.specs.Tape.{tape_at}
use Rattle.std.specs.List.{filter}
use Rattle.feeder_state.proofs.tapes.drop_reel.Goals as goal

pub returns-in-Some : goal.returns-in-Some
returns-in-Some c = λ m s.
    let reel = c.args.reel.now in
    let h = c.get_mut.follows.holds c.remove.new.tape.items in
    pair-written _ _ (c.args.machine, c.args.slot) _ (λ o. unwrap_or o []) ((h.3 (search rules)).0) m s
    ∙ pair-changed _ _ (tape_at c.args.tapes.now) (filter (λ r. not (same reel r))) (c.args.machine, c.args.slot)
    (sym (ap (λ o. unwrap_or o []) c.in-Some.ensures.value)) (search rules) m s
    ∙ drop-there (same c.args.machine m && same c.args.slot s) reel (tape_at c.args.tapes.now m s)

pub returns-in_default : goal.returns-in_default
returns-in_default c =
    let none : tape_at c.args.tapes.now c.args.machine c.args.slot ≡ [] = search rules in
    let same_map = c.get_mut.follows.holds-at-none in
    rw same_map (drop-absent c.args.machine c.args.slot c.args.reel.now (tape_at c.args.tapes.now) none)
