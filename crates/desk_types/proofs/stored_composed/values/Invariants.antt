use Rattle.desk_types.proofs.Common.{◌++◌, ◌≡◌, AllByRecursion, length}
use Rattle.std.proofs.Common.{flat_map}
use Rattle.desk_types.proofs.stored_composed.values.Given as goal

abbrev pub invariant-loop : goal.invariant-loop
invariant-loop g l =
    record {
      each : AllByRecursion g.T.Stored.in_range l.found.items;
      count : length l.found.items ≡ l.counter;
      read : l.fn.fields ≡ flat_map g.T.Stored.spelling l.found.items ++ l.fields;
    }
