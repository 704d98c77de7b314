use Rattle.desk_types.proofs.Common.{◌++◌, ◌≡◌, Basis, desk_minute, flat_map, Name, Some, take}
use Rattle.setup_sheets.specs.Verification.{AreFronts}
use Rattle.line_book.specs.Book.{Book}
use Rattle.line_book.specs.Causes.{slot_causes}
use Rattle.line_book.specs.Setup.{KeepsSetup}
use Rattle.line_book.proofs.setup.Setup.add_slots.Given as goal

-- The causes of the slots so far are found.
abbrev pub invariant-loop-i : goal.invariant-loop-i
invariant-loop-i g l = (S : Basis) (B : Book) (machine : Name) → g.D.Desk.Stands l.desk S
    → KeepsSetup S.history B l.self → desk_minute S.history ≡ Some l.minute
    → AreFronts S.history machine l.rows l.fronts
    → l.found.items ≡ l.fn.found.items ++ flat_map (slot_causes S.history B machine) (take l.i l.rows)
