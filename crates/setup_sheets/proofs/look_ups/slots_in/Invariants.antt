use Rattle.desk_types.proofs.Common.{◌≡◌, length, Name, option_or, slot_in}
use Rattle.setup_sheets.specs.LookUps.{slot_at}
use Rattle.setup_sheets.proofs.look_ups.slots_in.Given as goal

-- The remaining rows with the index so far agree with all rows.
abbrev pub invariant-loop-row : goal.invariant-loop-row
invariant-loop-row l = (d : Name) → option_or (slot_in l.rest d) (slot_at l.slots d) ≡ slot_in l.rows d

abbrev pub decreases-loop-row : goal.decreases-loop-row
decreases-loop-row l = length l.rest
