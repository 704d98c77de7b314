use Rattle.desk_types.proofs.Common.{◌||◌, ◌≡◌, has_sheet, History, Name}
use Rattle.feeder_state.{proofs.RestoredSheets.is_for, specs.Restored.AreRowsOf, specs.Setup.is_sheeted}
use Rattle.feeder_state.proofs.setup.rows.sheeted_of.Given as goal

-- The machines that are in, or are left to be put in.
abbrev pub invariant-loop-key : goal.invariant-loop-key
invariant-loop-key l = (H : History) → AreRowsOf H l.rows → (m : Name) → (is_sheeted l.sheeted m || is_for m l.key-iterator) ≡ has_sheet H m
