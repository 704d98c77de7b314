use Rattle.desk_types.proofs.Common.{◌++◌, ◌≡◌, drop, filter, same}
use Rattle.chain_stores.proofs.looking.only_of.Given as goal

-- The kept pieces, then those that are left.
abbrev pub invariant-loop-piece : goal.invariant-loop-piece
invariant-loop-piece l = l.kept.items ++ filter (λ p. same p.part l.part) (drop l.piece-index l.pieces) ≡ filter
    (λ p. same p.part l.part) l.pieces
