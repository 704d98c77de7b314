use Rattle.desk_types.proofs.Common.{◌≡◌, Name, option_or, row_in, take}
use Rattle.setup_sheets.specs.LookUps.{row_at}
use Rattle.setup_sheets.proofs.look_ups.places_in.Given as goal

-- The remaining rows with the index so far agree with all rows.
abbrev pub invariant-loop-i : goal.invariant-loop-i
invariant-loop-i l = (s : Name) → option_or (row_in (take l.i l.rows) s) (row_at l.rows l.places s) ≡ row_in l.rows s
