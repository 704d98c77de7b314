use Rattle.desk_types.proofs.Common.{◌≡◌, map, take}
use Rattle.state_rows.specs.Lists.{key_of, keys_of_installs}
use Rattle.line_traces.proofs.by_lists.keys_of.Given as goal

abbrev pub invariant-loop-install : goal.invariant-loop-install
invariant-loop-install l = map key_of l.keys.items ≡ keys_of_installs (take l.install-index l.installs)
