use Rattle.desk_types.proofs.Common.{◌++◌, ◌≡◌, map, range_with_len}
use Rattle.state_rows.specs.Lists.{key_of}
use Rattle.line_traces.proofs.by_lists.add_keys.Given as goal

abbrev pub invariant-loop-before : goal.invariant-loop-before
invariant-loop-before l = map key_of l.keys.items ≡ map key_of l.initial.keys.items ++ map (λ place. (l.install.number, place)) (range_with_len 1 l.before)
