-- The length of a command's lists.
use Rattle.std.specs.Prelude.{ℕ, ◌≤◌}
use Rattle.desk_types.specs.declared.limits.TheConstants.{LONGEST_LIST}

-- 1 to 5,000 elements.
abbrev pub IsListLength : ℕ → Type 0
IsListLength n = (1 ≤ n) × (n ≤ LONGEST_LIST)
