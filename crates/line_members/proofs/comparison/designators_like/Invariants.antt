use Rattle.desk_types.proofs.Common.{[], ◌≡◌, drop}
use Rattle.std.specs.Prelude.{fold}
use Rattle.line_members.specs.Comparison.{with_alike}
use Rattle.line_members.proofs.comparison.designators_like.Given as goal

-- The designators of the other pieces are missing.
abbrev pub invariant-loop-other : goal.invariant-loop-other
invariant-loop-other l = fold (with_alike l.piece) [] l.pieces
    ≡ fold (with_alike l.piece) l.text.items (drop l.other-index l.pieces)
