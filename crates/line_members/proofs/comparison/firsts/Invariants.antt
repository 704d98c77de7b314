use Rattle.desk_types.proofs.Common.{[], ◌≡◌, drop}
use Rattle.std.specs.Prelude.{fold}
use Rattle.line_members.specs.Comparison.{with_first}
use Rattle.line_members.proofs.comparison.firsts.Given as goal

-- The other pieces are missing.
abbrev pub invariant-loop-piece : goal.invariant-loop-piece
invariant-loop-piece l =
    fold with_first [] l.pieces ≡ fold with_first l.found.items (drop l.piece-index l.pieces)
