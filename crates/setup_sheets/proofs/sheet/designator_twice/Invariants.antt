use Rattle.desk_types.proofs.Common.{[], ◌≡◌, drop, name_twice, take}
use Rattle.desk_types.specs.Refusals.{designators_of_rows}
use Rattle.setup_sheets.specs.Names.{HasSeen}
use Rattle.setup_sheets.proofs.sheet.designator_twice.Given as goal

-- The designators so far have been seen, without repeats.
abbrev pub invariant-loop-row : goal.invariant-loop-row
invariant-loop-row l = record {
  seen : HasSeen l.seen (designators_of_rows (take l.row-index l.rows));
  none : name_twice [] (designators_of_rows l.rows) ≡ name_twice (designators_of_rows (take l.row-index l.rows)) (designators_of_rows (drop l.row-index l.rows));
}
