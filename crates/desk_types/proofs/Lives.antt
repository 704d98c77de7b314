-- Remaining floor life as a key of ordered sets, and the greatest label.
use Rattle.desk_types.proofs.Common.{◌≡◌, ◌≤◌, arith, IsLabel, refl, ℕ}
use Rattle.desk_types.specs.{declared.level.Level.Level, declared.level.Level.TheVariants.Six}
use Rattle.desk_types.specs.{declared.limits.TheConstants.GREATEST_LABEL}
use Rattle.desk_types.specs.{Free.by_left, contracts.view.LeftOrd.TheImpl.ghosts, declared.view.Left.Left}
use Rattle.desk_types.specs.{declared.view.Left.TheVariants.Minutes, declared.view.Left.TheVariants.Unbaked}
use Rattle.desk_types.specs.{declared.view.Left.TheVariants.Unlimited}

left-cmp : (a b : Left) → ghosts.cmp a b ≡ by_left a b
left-cmp (Minutes a) (Minutes b) = refl
left-cmp (Minutes a) Unlimited = refl
left-cmp (Minutes a) Unbaked = refl
left-cmp Unlimited (Minutes b) = refl
left-cmp Unlimited Unlimited = refl
left-cmp Unlimited Unbaked = refl
left-cmp Unbaked (Minutes b) = refl
left-cmp Unbaked Unlimited = refl
left-cmp Unbaked Unbaked = refl

pub label-below : (level : Level) (label : ℕ) → IsLabel level label → label ≤ GREATEST_LABEL
label-below Six label range = range.1
label-below _ label range = omega (arith, range)

pub left-order : ghosts.cmp ≡ by_left
left-order = λ j a b. left-cmp a b j
