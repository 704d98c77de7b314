use Rattle.desk_types.proofs.Common.{AllByRecursion, Name}
use Rattle.chain_check.proofs.SameRows.{SameAlternate}
use Rattle.chain_check.proofs.tables.alternate_in.Given as goal

-- What holds of the keys that are left holds of all.
abbrev pub invariant-loop-part : goal.invariant-loop-part
invariant-loop-part l =
    AllByRecursion (λ (k : Name × Name). SameAlternate l.old l.new k) l.part-iterator
    → AllByRecursion (λ (k : Name × Name). SameAlternate l.old l.new k) l.initial.part-iterator
