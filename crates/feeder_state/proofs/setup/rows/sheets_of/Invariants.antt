use Rattle.desk_types.proofs.Common.{◌≡◌, History, Name, option_and_then, option_or, sheet_of}
use Rattle.desk_laws.proofs.Common.{SheetRow}
use Rattle.feeder_state.specs.{Restored.AreRowsOf, Setup.sheet_at}
use Rattle.state_rows.specs.Kept.{by_sheet_place, row_at}
use Rattle.feeder_state.proofs.setup.rows.sheets_of.Given as goal

-- A sheet is in the map, or its first row is left.
abbrev pub invariant-loop-key : goal.invariant-loop-key
invariant-loop-key l = (H : History) → AreRowsOf H l.rows → (p m : Name)
    → option_or (sheet_at l.sheets p m) (option_and_then (λ (row : SheetRow). sheet_of H p m) (row_at by_sheet_place l.key-iterator (p, m, 1))) ≡ sheet_of H p m
