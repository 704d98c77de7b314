use Rattle.desk_types.proofs.Common.{◌≡◌, map, reverse}
use Rattle.chain_check.specs.Rows.{names_of}
use Rattle.chain_check.proofs.rows.names_among.Given as goal

abbrev pub invariant-loop-piece : goal.invariant-loop-piece
invariant-loop-piece l = l.names.keys ≡ names_of l.subject (reverse (map (λ p. p.now) l.yielded))
