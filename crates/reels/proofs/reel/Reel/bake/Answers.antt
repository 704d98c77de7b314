use Rattle.desk_types.proofs.Common.{◌∷◌, subst, sym}
use Rattle.reels.{proofs.StandingReels.StandsFor-bake, specs.Reel.RowStandsFor}
use Rattle.reels.proofs.reel.Reel.bake.Goals as goal

pub returns-clause-stands : goal.returns-clause-stands
returns-clause-stands c = λ H name e stands command now.
    let old = c.args.self.now in
    subst (λ row. RowStandsFor (e ∷ H) name row old.found c.args.at) (sym c.baked-self.ensures) (StandsFor-bake H e name old.row old.found old.last c.args.at stands command now)
