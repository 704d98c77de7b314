use Rattle.desk_types.proofs.Common.{◌∙◌, arith, drop-next, subst, take-next}
use Rattle.line_doubt.specs.Marks.{AsksRise, best_before}
use Rattle.line_doubt.proofs.Lists.{mapped-next}
use Rattle.line_doubt.proofs.Taking.{taken-tells}
use Rattle.line_doubt.proofs.best.best_before.Goals as goal

pub loop-ask-preserved : goal.loop-ask-preserved
loop-ask-preserved c =
    let marks = c.args.marks.now in
    let asks = c.args.asks.now in
    let i = c.loop-ask.ask-index in
    let a = c.ask-item.result in
    let before = c.loop-ask.invariant.2 in
    let rise = subst (AsksRise before.0) (drop-next asks i a (omega arith) c.ask-item.is) before.2 in
    let taken = c.in_ok-at.ensures.taken before.0 rise.0 before.1 in (
      c.in_ok-at.ensures.within,
      mapped-next (best_before marks) asks i a _ _ _ (take-next asks i a (omega arith) c.ask-item.is)
          c.loop-ask.invariant.1
          (c.best_in.ensures ∙ taken-tells marks a.at c.in_ok-at.at c.take_in.new.best a.machine a.slot taken)
          c.in_ok-push.ensures.items,
      (a.at, taken, rise.1),
    )
