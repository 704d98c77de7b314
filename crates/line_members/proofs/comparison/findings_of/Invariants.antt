use Rattle.desk_types.proofs.Common.{◌≡◌, map, take}
use Rattle.line_book.specs.Guard.{tape_at}
use Rattle.line_members.specs.Comparison.{finding_of}
use Rattle.line_members.proofs.comparison.findings_of.Given as goal

-- The findings of the pieces so far are there.
abbrev pub invariant-loop-first : goal.invariant-loop-first
invariant-loop-first l = l.found.items
    ≡ map (finding_of l.machine l.board (tape_at l.guard.tapes) l.pieces) (take l.first-index l.firsts)
