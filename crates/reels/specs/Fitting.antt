-- The ranges of a reel's values.
use Rattle.std.specs.Prelude.{◌≡◌, ℕ, ◌+◌, ◌≤◌}
use Rattle.std.specs.Option.{ForSome, ForNone}
use Rattle.desk_types.specs.declared.limits.TheConstants.{GREATEST_LABEL}
use Rattle.desk_types.specs.declared.row.ReelRow.{ReelRow}

-- The row's pieces balance, this many of them found, and the reel was out no longer than since the
-- first minute, by its last command at this one.
pub record IsFitting (row : ReelRow) (found last : ℕ) : Type 0 where
  pub label : row.label ≤ GREATEST_LABEL
  pub balance : row.received ≡ row.placed + row.scrapped + row.remaining
  pub finds : found ≤ row.received
  pub opened : ForSome row.open_since (λ since. (row.used ≤ since) × (since ≤ last))
  pub sealed : ForNone row.open_since (row.used ≤ last)
