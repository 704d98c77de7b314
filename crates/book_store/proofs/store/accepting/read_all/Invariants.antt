use Rattle.desk_types.proofs.Common.{take}
use Rattle.book_store.specs.Accepted.{ArePlacedAt}
use Rattle.book_store.proofs.store.accepting.read_all.Given as goal

-- The rows so far are read.
abbrev pub invariant-loop-row : goal.invariant-loop-row
invariant-loop-row l = ArePlacedAt l.fn.reading l.place (take l.row-index l.rows) l.notes.items l.reading
