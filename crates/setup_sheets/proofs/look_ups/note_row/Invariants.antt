use Rattle.desk_types.proofs.Common.{◌≡◌, if◌then◌else◌, list_any, Name, same, Some, take}
use Rattle.setup_sheets.specs.LookUps.{slot_at}
use Rattle.setup_sheets.proofs.look_ups.note_row.Given as goal

-- The designators so far map to the row's slot.
abbrev pub invariant-loop-designator : goal.invariant-loop-designator
invariant-loop-designator l =
    (d : Name) → slot_at l.slots d ≡ (if list_any (same d) (take l.designator-index l.designator-items) then Some l.row.slot else slot_at l.initial.slots d)
