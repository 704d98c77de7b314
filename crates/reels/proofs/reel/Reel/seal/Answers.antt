use Rattle.desk_types.proofs.Common.{◌∷◌, arith, subst, sym}
use Rattle.reels.proofs.StandingReels.{exposure-within, sealed-fits, StandsFor-seal}
use Rattle.reels.specs.{Fitting.IsFitting, Reel.RowStandsFor}
use Rattle.reels.proofs.reel.Reel.seal.Goals as goal

pub returns-clause-row : goal.returns-clause-row
returns-clause-row c =
    let old = c.args.self.now in
    let within = exposure-within old.row old.found old.last c.args.at old.fits c.requires in
    c.sealed-self.ensures (omega (arith, within, c.get.ensures.range))

pub invariant_of-self : goal.invariant_of-self
invariant_of-self c =
    let old = c.args.self.now in
    let within = exposure-within old.row old.found old.last c.args.at old.fits c.requires in
    record {
      fits = subst (λ row. IsFitting row old.found c.args.at) (sym (c.sealed-self.ensures (omega (arith, within, c.get.ensures.range))))
          (sealed-fits old.row old.found old.last c.args.at old.fits c.requires);
    }

pub returns-clause-stands : goal.returns-clause-stands
returns-clause-stands c = λ H name e stands command now.
    let old = c.args.self.now in
    let within = exposure-within old.row old.found old.last c.args.at old.fits c.requires in
    subst (λ row. RowStandsFor (e ∷ H) name row old.found c.args.at) (sym (c.sealed-self.ensures (omega (arith, within, c.get.ensures.range))))
    (StandsFor-seal H e name old.row old.found old.last c.args.at stands command c.requires now)
