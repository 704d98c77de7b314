use Rattle.desk_types.proofs.Common.{◌≡◌, map, reverse, set_of}
use Rattle.chain_stores.proofs.looking.as_set.Given as goal

abbrev pub invariant-loop-name : goal.invariant-loop-name
invariant-loop-name l = l.found.keys ≡ set_of (reverse (map (λ name. name.now) l.yielded))
