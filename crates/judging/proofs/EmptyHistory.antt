-- An empty history has no front reels, no mounts and no reels.
use Rattle.desk_types.proofs.Common.{[], ◌∷◌, ◌≡◌, desk_minute, History, Name, None, reel_view, refl}
use Rattle.desk_types.specs.{Front.fronts_of, View.mounts_on}

pub no-fronts : (H : History) (machine : Name) → desk_minute H ≡ None → fronts_of H machine ≡ []
no-fronts [] machine none = refl
no-fronts (e ∷ H) machine none = cc

pub no-mounts : (H : History) (machine : Name) → desk_minute H ≡ None → mounts_on H machine ≡ None
no-mounts [] machine none = refl
no-mounts (e ∷ H) machine none = cc

pub no-reel : (H : History) (name : Name) → desk_minute H ≡ None → reel_view H name ≡ None
no-reel [] name none = refl
no-reel (e ∷ H) name none = cc
