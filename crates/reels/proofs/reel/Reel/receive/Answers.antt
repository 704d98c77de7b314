use Rattle.desk_types.proofs.Common.{◌∷◌, arith, subst, sym}
use Rattle.desk_types.proofs.Lives.{label-below}
use Rattle.reels.proofs.StandingReels.{StandsFor-receive}
use Rattle.reels.specs.{Fitting.IsFitting, Reel.RowStandsFor}
use Rattle.reels.proofs.reel.Reel.receive.Goals as goal

pub invariant_of-result : goal.invariant_of-result
invariant_of-result c =
    record {
      fits = subst (λ row. IsFitting row 0 c.args.at) (sym (c.fresh.ensures c.args.at))
          (record { label = let range = label-below c.args.moisture.level c.label.result c.label.ensures.range in omega (arith, range, c.label.ensures.value); balance = omega arith; finds = omega arith; opened = λ x is. cc; sealed = λ _. omega arith });
    }

pub returns-clause-row : goal.returns-clause-row
returns-clause-row c = c.fresh.ensures c.args.at

pub returns-clause-stands : goal.returns-clause-stands
returns-clause-stands c = λ H e untouched command now.
    let a = c.args in
    subst (λ row. RowStandsFor (e ∷ H) a.reel row 0 a.at) (sym (c.fresh.ensures a.at))
    (StandsFor-receive H e a.reel a.part a.lot a.moisture a.quantity a.at untouched command now)
