use Rattle.desk_types.proofs.Common.{◌∙◌, AllByRecursion, ap, by_name, exact_bytes, is_some, Name, reel_view}
use Rattle.desk_types.proofs.Common.{rules, subst, sym}
use Rattle.desk_laws.proofs.Common.{ReelRow}
use Rattle.chain_check.{proofs.Covered.covered-rows, specs.Views.IsCarried}
use Rattle.state_rows.specs.Kept.{Lists, tables_in}
use Rattle.chain_check.proofs.carried.reel_in.Goals as goal

pub loop-reel-preserved : goal.loop-reel-preserved
loop-reel-preserved g c = λ B B' of_old of_new rest.
    let reel = c.in-Some.reel.now in
    let carried : IsCarried (reel_view B.history reel) (reel_view B'.history reel) =
    subst (λ v. IsCarried v (reel_view B'.history reel)) (c.reel-of_old.ensures B of_old)
    (subst (λ w. IsCarried c.reel-of_old.result w) (c.reel-of_new.ensures B' of_new)
    c.in_default.ensures.same) in
    c.loop-reel.invariant B B' of_old of_new
    (subst (AllByRecursion (λ (e : Name × ReelRow). IsCarried (reel_view B.history e.0) (reel_view B'.history e.0)))
    (sym c.in-Some.ensures.steps) (carried, rest))

pub returns : goal.returns
returns g c =
    let table = (tables_in c.args.reels.now).reels in
    let es = c.into_iter-reel-iterator.result in
    let lists : Lists by_name es table = subst (λ xs. Lists by_name xs table) (search rules) c.reels-reel-items.ensures in
    record {
      same = λ B B' of_old of_new reel some.
          covered-rows by_name exact_bytes
          (λ (k : Name). IsCarried (reel_view B.history k) (reel_view B'.history k)) es reel
          (c.loop-reel.invariant B B' of_old of_new
          (subst
          (AllByRecursion (λ (e : Name × ReelRow). IsCarried (reel_view B.history e.0) (reel_view B'.history e.0)))
          (sym c.in-None.ensures.steps.0) tt))
          (ap is_some (lists.rows reel) ∙ some);
      differs = λ B B' of_old of_new. tt;
    }
