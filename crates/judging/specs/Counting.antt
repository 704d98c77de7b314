-- The result of one row of a count.
use Rattle.std.specs.Prelude.{◌≡◌, ℕ, ◌-◌, None, Some, Result, Ok, Err, List, [], ◌∷◌, ◌++◌}
use Rattle.std.specs.BTreeSet.{BTreeSet}
use Rattle.desk_types.specs.declared.desk.JudgeFault.{JudgeFault}
use Rattle.desk_types.specs.declared.count.CountRow.{CountRow}
use Rattle.desk_types.specs.declared.rules.Rules.{Rules}
use Rattle.desk_types.specs.Id.{Name}
use Rattle.desk_types.specs.History.{History}
use Rattle.desk_types.specs.Pieces.{left_of}
use Rattle.desk_types.specs.Refusals.{count_refusal}
use Rattle.setup_sheets.specs.Names.{HasSeen}
use Rattle.judging.specs.Placing.{IsTold}

-- The row's missing pieces are counted and its reel is added to those seen, or the fault is told.
abbrev pub IsCounted : Rules → History → List Name → CountRow → Result ℕ JudgeFault
    → BTreeSet Name → Type 0
IsCounted rules H before row (Ok missing) seen =
    (count_refusal rules H before row ≡ None) × (missing ≡ left_of H row.reel - row.quantity)
    × HasSeen seen (before ++ row.reel ∷ [])
IsCounted rules H before row (Err fault) seen = IsTold (count_refusal rules H before row) fault
