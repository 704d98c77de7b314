use Rattle.desk_types.proofs.Common.{[], ◌++◌, ◌∙◌, ◌∷◌, ap, ap₂, arith, sym, take, take-next}
use Rattle.line_doubt.specs.Runs.{close_flags, is_close, run_after, run_of}
use Rattle.line_doubt.proofs.Passed.{flags-last, onto, onto-last}
use Rattle.line_doubt.proofs.runs.are_close.Goals as goal

pub loop-spot-preserved : goal.loop-spot-preserved
loop-spot-preserved c =
    let spots = c.args.spots.now in
    let t = c.args.within in
    let i = c.loop-spot.spot-index in
    let p = c.spot-item.result in
    let longer = take-next spots i p (omega arith) c.spot-item.is in
    record {
      flags = c.in_ok-push.ensures.items
          ∙ ap₂ (λ l b. l ++ b ∷ []) c.loop-spot.invariant.flags
          (c.in_ok-close.ensures.close ∙ ap (λ o. is_close t o p) (c.loop-spot.invariant.runs p.machine p.slot))
          ∙ sym (ap (close_flags t []) longer ∙ flags-last t [] (take i spots) p);
      runs = λ machine slot.
          c.in_ok-close.ensures.runs machine slot
          ∙ ap (run_after t machine slot p) (c.loop-spot.invariant.runs machine slot)
          ∙ sym (ap (run_of t machine slot) (ap (onto []) longer ∙ onto-last [] (take i spots) p));
    }
