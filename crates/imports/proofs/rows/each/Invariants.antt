use Rattle.desk_types.proofs.Common.{◌+◌, ◌≡◌, ◌≤◌, length, map, Ok, take}
use Rattle.csv.specs.Records.{fields_of}
use Rattle.desk_types.specs.declared.limits.TheConstants.{LONGEST_LIST}
use Rattle.imports.specs.{File.each, declared.rows.TheConstants.FIRST_ROW}
use Rattle.imports.proofs.rows.each.Given as goal

-- The records so far are these rows, and this is the next line.
abbrev pub invariant-loop-record : goal.invariant-loop-record
invariant-loop-record g l = record {
  said : each g.T.Row.said FIRST_ROW (map fields_of (take l.record-index l.records)) ≡ Ok l.rows.items;
  line : l.line ≡ FIRST_ROW + l.record-index;
  count : length l.rows.items ≡ l.record-index;
  bound : length l.rows.items ≤ LONGEST_LIST;
}
