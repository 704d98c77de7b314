use Rattle.desk_types.proofs.Common.{◌≡◌, map, reverse, set_of}
use Rattle.desk_laws.proofs.Common.{Placement}
use Rattle.line_traces.proofs.by_lists.boards_among.Given as goal

abbrev pub invariant-loop-piece : goal.invariant-loop-piece
invariant-loop-piece l = l.boards.keys ≡ set_of (map (λ (p : Placement). p.board) (reverse (map (λ p. p.now) l.yielded)))
