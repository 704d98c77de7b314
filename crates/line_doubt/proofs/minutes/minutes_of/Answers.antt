use Rattle.desk_types.proofs.Common.{[], ◌∷◌, ◌≤◌, All, All-append, All-cons, All-nil, arith, subst, sym, take-next, ℕ}
use Rattle.desk_types.specs.declared.command.Stamped.{Stamped}
use Rattle.desk_types.specs.declared.limits.TheConstants.{GREATEST_MINUTE}
use Rattle.line_doubt.proofs.Lists.{mapped-next}
use Rattle.line_doubt.proofs.minutes.minutes_of.Goals as goal

pub loop-i-preserved : goal.loop-i-preserved
loop-i-preserved c =
    let commands = c.args.commands.now in
    let i = c.loop-i.i in
    let s = c.index-commands-i.result in
    let m = c.get-minute.result in
    let Fits : ℕ → Type 0 = λ m. m ≤ GREATEST_MINUTE in (
      mapped-next (λ (s : Stamped). s.minute) commands i s _ _ m
          (take-next commands i s (omega arith) c.index-commands-i.is)
          c.loop-i.invariant.0 c.get-minute.ensures.value c.in_ok-push.ensures.items,
      subst (All Fits) (sym c.in_ok-push.ensures.items)
          (All-append Fits c.loop-i.minutes.items (m ∷ []) c.loop-i.invariant.1
          (All-cons Fits m [] c.get-minute.ensures.range (All-nil Fits))),
    )
