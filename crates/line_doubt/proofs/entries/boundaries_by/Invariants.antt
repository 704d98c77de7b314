use Rattle.desk_types.proofs.Common.{◌≡◌, map, take}
use Rattle.line_doubt.specs.Sources.{boundary_by}
use Rattle.line_doubt.proofs.entries.boundaries_by.Given as goal

-- The pieces so far are looked up.
abbrev pub invariant-loop-piece : goal.invariant-loop-piece
invariant-loop-piece l = l.found.items ≡ map (boundary_by l.book) (take l.piece-index l.placed)
