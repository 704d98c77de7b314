-- Worked cases of the limits of files.
use Rattle.desk_types.proofs.Common.{[], ◌∷◌, ◌≡◌, codes, None, refl, Some}
use Rattle.imports.specs.File.{designators_of, quantity_of}

-- ---- quantities at their limits

pub greatest_quantity : quantity_of (codes "10000000") ≡ Some 10000000
unfolding quantity_of
greatest_quantity = refl

pub quantity_above : quantity_of (codes "10000001") ≡ None
unfolding quantity_of
quantity_above = refl

pub eight_digits : quantity_of (codes "00000005") ≡ Some 5
unfolding quantity_of
eight_digits = refl

pub nine_digits : quantity_of (codes "000000005") ≡ None
unfolding quantity_of
nine_digits = refl

pub no_digit : quantity_of [] ≡ None
unfolding quantity_of
no_digit = refl

-- ---- designators

pub one_space : designators_of (codes "R1 R2") ≡ Some (codes "R1" ∷ codes "R2" ∷ [])
unfolding designators_of
one_space = refl

pub two_spaces : designators_of (codes "R1  R2") ≡ None
unfolding designators_of
two_spaces = refl

pub space_at_the_end : designators_of (codes "R1 ") ≡ None
unfolding designators_of
space_at_the_end = refl

pub no_designator : designators_of [] ≡ None
unfolding designators_of
no_designator = refl
