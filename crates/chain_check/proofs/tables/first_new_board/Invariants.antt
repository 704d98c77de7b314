use Rattle.desk_types.proofs.Common.{AllByRecursion, Name}
use Rattle.desk_laws.proofs.Common.{BoardRow}
use Rattle.chain_check.proofs.SameRows.{IsKnown}
use Rattle.chain_check.proofs.tables.first_new_board.Given as goal

-- What holds of the keys that are left holds of all.
abbrev pub invariant-loop-board : goal.invariant-loop-board
invariant-loop-board l =
    AllByRecursion (λ (e : Name × BoardRow). IsKnown l.old l.new e.0) l.board-iterator
    → AllByRecursion (λ (e : Name × BoardRow). IsKnown l.old l.new e.0) l.initial.board-iterator
