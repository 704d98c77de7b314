use Rattle.desk_types.proofs.Common.{◌++◌, ◌≡◌, by_name, drop, filter}
use Rattle.std.specs.BTreeSet.{contains_by}
use Rattle.chain_stores.proofs.looking.add_pieces.Given as goal

-- The kept pieces, then those that are left.
abbrev pub invariant-loop-piece : goal.invariant-loop-piece
invariant-loop-piece l = l.kept.items ++ filter (λ p. contains_by (by_name p.reel) l.reels)
    (drop l.piece-index l.pieces)
    ≡ l.fn.kept.items ++ filter (λ p. contains_by (by_name p.reel) l.reels) l.pieces
