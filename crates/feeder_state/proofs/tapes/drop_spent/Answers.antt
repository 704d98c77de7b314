use Rattle.desk_types.proofs.Common.{◌==◌, ◌≡◌, false, rules, sym}
use Rattle.feeder_state.proofs.ReelsOffTapes.{counted-stay, filter-kept, unspent-stay}
use Rattle.feeder_state.specs.{Rows.left_at, Tape.tape_at}
use Rattle.feeder_state.proofs.tapes.drop_spent.Goals as goal

pub returns-then-not-is_spent : goal.returns-then-not-is_spent
returns-then-not-is_spent c = λ m s.
    let some : (left_at c.args.rows.now c.args.take.now.reel == 0) ≡ false = search rules in
    sym (filter-kept _ (unspent-stay (left_at c.args.rows.now) m s c.args.take.now some) (tape_at c.args.tapes.now m s))

pub returns-in-Counted : goal.returns-in-Counted
returns-in-Counted c = λ m s.
    sym (filter-kept _ (counted-stay (left_at c.args.rows.now) m s c.args.take.now c.in-Counted.is) (tape_at c.args.tapes.now m s))
