use Rattle.desk_types.proofs.Common.{◌++◌, ◌≡◌, drop, List, Name, name_twice, take}
use Rattle.setup_sheets.specs.Names.{HasSeen}
use Rattle.setup_sheets.proofs.sheet.twice_in.Given as goal

-- The designators so far have been seen, without repeats.
abbrev pub invariant-loop-designator : goal.invariant-loop-designator
invariant-loop-designator l = (before : List Name) → HasSeen l.fn.seen before → record {
  seen : HasSeen l.seen (before ++ take l.designator-index l.designators);
  none : name_twice before l.designators ≡ name_twice (before ++ take l.designator-index l.designators) (drop l.designator-index l.designators);
}
