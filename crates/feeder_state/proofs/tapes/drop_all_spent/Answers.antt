use Rattle.desk_types.proofs.Common.{IsDistinct, list_any, not, refl, same, subst, sym, take}
use Rattle.desk_laws.proofs.Distinct.{distinct-filter}
use Rattle.feeder_state.proofs.ReelsOffTapes.{dropped-next, filter-kept}
use Rattle.feeder_state.specs.{Rows.left_at, Spending.is_spent_by, Tape.tape_at}
use Rattle.feeder_state.proofs.tapes.drop_all_spent.Goals as goal

pub drop_spent-requires : goal.drop_spent-requires
drop_spent-requires c = λ m s.
    subst (IsDistinct same) (sym (c.loop-take.invariant m s))
    (distinct-filter same (λ r. not (list_any (is_spent_by (left_at c.args.rows.now) m s r) (take c.loop-take.take-index c.args.takes.now))) (tape_at c.args.tapes.now m s) (c.requires m s))

pub loop-take-init : goal.loop-take-init
loop-take-init c = λ m s. sym (filter-kept _ (λ r. refl) _)

pub loop-take-preserved : goal.loop-take-preserved
loop-take-preserved c = λ m s.
    dropped-next (left_at c.args.rows.now) m s c.args.takes.now c.loop-take.take-index c.take-item.result _ _ _ c.loop-take-test.true c.take-item.is
    (c.loop-take.invariant m s) (c.drop_spent.ensures m s)
