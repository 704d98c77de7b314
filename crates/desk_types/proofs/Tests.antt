-- Concatenated tests and their results.
use Rattle.std.proofs.Common.{◌≡◌, Bool, cond, false, None, refl, Some, true}
use Rattle.std.specs.Prelude.{◌||◌, if◌then◌else◌}

pub swap-or : (a b c : Bool) → (a || (b || c)) ≡ (b || (a || c))
swap-or true true c = refl
swap-or true false c = refl
swap-or false b c = refl

pub if-some : {X : Type 0} (b : Bool) (x y : X) → (if b then Some x else None) ≡ Some y → b ≡ true
if-some true x y is = refl
if-some false x y is = cc

pub if-none : {X Y : Type 0} (b : Bool) (x : X) (y : Y) → (if b then Some x else None) ≡ None → (if b then Some y else None) ≡ None
if-none true x y is = cc
if-none false x y is = refl

pub or-cond : (b c : Bool) → cond b true c ≡ (b || c)
or-cond true c = refl
or-cond false c = refl
