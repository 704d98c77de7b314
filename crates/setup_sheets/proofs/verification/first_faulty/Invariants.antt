use Rattle.desk_types.proofs.Common.{◌≡◌, drop}
use Rattle.setup_sheets.specs.Verification.{first_fault}
use Rattle.setup_sheets.proofs.verification.first_faulty.Given as goal

-- No slot so far is faulty.
abbrev pub invariant-loop-i : goal.invariant-loop-i
invariant-loop-i l = first_fault l.alternates l.at l.rows l.fronts ≡ first_fault l.alternates l.at (drop l.i l.rows) (drop l.i l.fronts)
