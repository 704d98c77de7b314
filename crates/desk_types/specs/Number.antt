-- Minutes and pieces.
use Rattle.std.specs.Prelude.{ℕ, ◌≤◌}
use Rattle.desk_types.specs.declared.limits.TheConstants.{GREATEST_MINUTE, GREATEST_QUANTITY}

-- Minutes since 1970, up to the end of the year 9999.
abbrev pub IsMinute : ℕ → Type 0
IsMinute n = n ≤ GREATEST_MINUTE

-- 1 to 10,000,000 pieces.
abbrev pub IsQuantity : ℕ → Type 0
IsQuantity n = (1 ≤ n) × (n ≤ GREATEST_QUANTITY)

-- 0 to 10,000,000 pieces.
abbrev pub IsCountedQuantity : ℕ → Type 0
IsCountedQuantity n = n ≤ GREATEST_QUANTITY
