use Rattle.desk_types.proofs.Common.{[], ◌≡◌, drop, name_twice, slots_of_rows, take}
use Rattle.setup_sheets.specs.Names.{HasSeen}
use Rattle.setup_sheets.proofs.sheet.slot_twice.Given as goal

-- The slots so far have been seen, without repeats.
abbrev pub invariant-loop-row : goal.invariant-loop-row
invariant-loop-row l = record {
  seen : HasSeen l.seen (slots_of_rows (take l.row-index l.rows));
  none : name_twice [] (slots_of_rows l.rows) ≡ name_twice (slots_of_rows (take l.row-index l.rows)) (slots_of_rows (drop l.row-index l.rows));
}
