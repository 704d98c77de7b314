-- The verdict over all tables.
use Rattle.desk_types.proofs.Common.{[], ◌++◌, ◌+◌, ◌<◌, ◌∷◌, ◌≡◌, AllByRecursion, ap, arith, drop, get_or}
use Rattle.desk_types.proofs.Common.{length, List, Name, None, refl, suc, take, take_more, zero, ℕ}
use Rattle.line_tables.proofs.Common.{all-append, Database, One, Rules, Two}
use Rattle.desk_types.specs.Tables.{Tables as StateTables}
use Rattle.line_replay.specs.Audit.{found_table, HoldsTable, state_tables}
use Rattle.line_tables.specs.StateRows.{HoldsFoundBy, HoldsStateBy}

-- The rows of `found` are right too: under rules One there is no such table.
pub found_right : (rules : Rules) (db : Database) (t : StateTables) → (rules ≡ One → (reel : Name) → t.found reel ≡ None) → AllByRecursion (HoldsTable db t) (found_table rules) → HoldsFoundBy rules db t
found_right One db t none h = none refl
found_right Two db t none h = h.0

pub all_right : (rules : Rules) (db : Database) (t : StateTables) → (rules ≡ One → (reel : Name) → t.found reel ≡ None) → AllByRecursion (HoldsTable db t) (state_tables rules) → HoldsStateBy rules db t
all_right rules db t none h = record {
  parts = h.0;
  alternates = h.1.0;
  sheets = h.1.1.0;
  selected = h.1.1.1.0;
  reels = h.1.1.1.1.0;
  mounts = h.1.1.1.1.1.0;
  boards = h.1.1.1.1.1.1.0;
  placements = h.1.1.1.1.1.1.1.0;
  found = found_right rules db t none h.1.1.1.1.1.1.1.1;
}

pub split_at : {X : Type 0} (xs : List X) (i : ℕ) (d : X) → i < length xs → xs ≡ take i xs ++ get_or xs i d ∷ drop (i + 1) xs
split_at [] i d h = absurd (omega (arith, h))
split_at (x ∷ xs) zero d h = refl
split_at (x ∷ xs) (suc i) d h = let next : suc i + 1 ≡ suc (i + 1) = omega arith in rw next (ap (λ rest. x ∷ rest) (split_at xs i d (omega (arith, h))))

pub right_more : {X : Type 0} (P : X → Type 0) (xs : List X) (i : ℕ) (d : X) → i < length xs → AllByRecursion P (take i xs) → P (get_or xs i d) → AllByRecursion P (take (i + 1) xs)
right_more P xs i d h before here = rw (take_more xs i d) (all-append P (take i xs) (get_or xs i d ∷ []) before (here, tt))
