-- Facts of rows, by key.
use Rattle.desk_types.proofs.Common.{◌&&◌, ◌≡◌, Bool, false, is_some, Name, None, not, Option, refl, Some}
use Rattle.desk_types.proofs.Common.{true}
use Rattle.chain_check.specs.Tables.{machine_at}
use Rattle.state_rows.specs.Kept.{KeptRows, tables_in}
use Rattle.std.{proofs.Math.Bool.beq, specs.Prelude.IfNone}

abbrev pub SamePart : KeptRows → KeptRows → Name → Type 0
SamePart old new part = (tables_in old).parts part ≡ (tables_in new).parts part

abbrev pub SameAlternate : KeptRows → KeptRows → Name × Name → Type 0
SameAlternate old new k = (tables_in old).alternates k.0 k.1 ≡ (tables_in new).alternates k.0 k.1

abbrev pub SameSelection : KeptRows → KeptRows → Name → Type 0
SameSelection old new machine = (tables_in old).selected machine ≡ (tables_in new).selected machine

abbrev pub IsOffWork : KeptRows → Name → Type 0
IsOffWork rows board = is_some (machine_at rows board) ≡ false

abbrev pub IsKnown : KeptRows → KeptRows → Name → Type 0
IsKnown old new board = is_some ((tables_in new).boards board) ≡ true → is_some ((tables_in old).boards board) ≡ true

pub beq-same : (a b : Bool) → not (beq a b) ≡ false → a ≡ b
beq-same true true is = refl
beq-same true false is = cc
beq-same false true is = cc
beq-same false false is = refl

-- A test that agrees where either has the key agrees everywhere.
pub either : (a b : Bool) → (a ≡ true → a ≡ b) → (b ≡ true → a ≡ b) → a ≡ b
either true b old new = old refl
either false true old new = new refl
either false false old new = refl

pub either-some : {X : Type 0} (a b : Option X) → (is_some a ≡ true → a ≡ b) → (is_some b ≡ true → a ≡ b) → a ≡ b
either-some (Some x) b old new = old refl
either-some None (Some x) old new = new refl
either-some None None old new = refl

pub known : (a b : Bool) → (a && not b) ≡ false → a ≡ true → b ≡ true
known true true is has = refl
known true false is has = cc
known false b is has = cc

pub none-then : {X : Type 0} (r : Option X) {P Q : Type 0} → (P → Q) → IfNone r P → IfNone r Q
none-then None f p = f p
none-then (Some x) f p = tt
