use Rattle.desk_types.proofs.Common.{AllByRecursion, Name}
use Rattle.chain_check.proofs.SameRows.{SameSelection}
use Rattle.chain_check.proofs.tables.selection_in.Given as goal

-- What holds of the keys that are left holds of all.
abbrev pub invariant-loop-machine : goal.invariant-loop-machine
invariant-loop-machine l =
    AllByRecursion (λ (e : Name × Name). SameSelection l.old l.new e.0) l.machine-iterator
    → AllByRecursion (λ (e : Name × Name). SameSelection l.old l.new e.0) l.initial.machine-iterator
