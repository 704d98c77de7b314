-- The number of boards of a kit.
use Rattle.std.specs.Prelude.{ℕ, ◌≤◌}
use Rattle.desk_types.specs.declared.limits.TheConstants.{MOST_BOARDS}

-- 1 to 100,000 boards.
abbrev pub IsBoards : ℕ → Type 0
IsBoards n = (1 ≤ n) × (n ≤ MOST_BOARDS)
