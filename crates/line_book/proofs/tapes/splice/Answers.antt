use Rattle.desk_types.proofs.Common.{[], ◌∙◌, ap, pair-changed, pair-written, rules, sym, tape_with}
use Rattle.desk_types.proofs.Common.{unwrap_or}
use Rattle.line_book.specs.Guard.{tape_at}
use Rattle.line_book.proofs.tapes.splice.Goals as goal

pub returns-in_ok-join : goal.returns-in_ok-join
returns-in_ok-join c = λ m s.
    let h = c.get_mut.follows.holds c.join.new.self in
    pair-written _ _ (c.args.machine, c.args.slot) _ (λ o. unwrap_or o []) ((h.3 (search rules)).0) m s
    ∙ pair-changed _ _ (tape_at c.args.tapes.now) (λ reels. tape_with reels c.args.reel) (c.args.machine, c.args.slot)
    (sym (ap (λ o. unwrap_or o []) c.in-Some.ensures.value)) (sym c.in_ok-join.ensures) m s
