use Rattle.desk_types.proofs.Common.{◌∷◌, subst, sym}
use Rattle.reels.proofs.StandingReels.{opened-fits, StandsFor-open}
use Rattle.reels.specs.{Fitting.IsFitting, Reel.RowStandsFor}
use Rattle.reels.proofs.reel.Reel.open.Goals as goal

pub invariant_of-self : goal.invariant_of-self
invariant_of-self c =
    let old = c.args.self.now in
    record { fits = subst (λ row. IsFitting row old.found c.args.at) (sym c.opened-self.ensures) (opened-fits old.row old.found old.last c.args.at old.fits c.requires) }

pub returns-clause-stands : goal.returns-clause-stands
returns-clause-stands c = λ H name e stands says now.
    let old = c.args.self.now in
    subst (λ row. RowStandsFor (e ∷ H) name row old.found c.args.at) (sym c.opened-self.ensures)
    (StandsFor-open H e name old.row old.found old.last c.args.at stands says c.requires now (λ s is. (old.fits.opened s is).1))
