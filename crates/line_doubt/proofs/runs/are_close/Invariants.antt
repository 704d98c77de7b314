use Rattle.desk_types.proofs.Common.{[], ◌≡◌, Name, take}
use Rattle.line_doubt.specs.Runs.{close_flags, run_in, run_of}
use Rattle.line_doubt.proofs.Passed.{onto}
use Rattle.line_doubt.proofs.runs.are_close.Given as goal

-- The pieces so far are answered and taken in.
abbrev pub invariant-loop-spot : goal.invariant-loop-spot
invariant-loop-spot l = record {
  flags : l.found.items ≡ close_flags l.within [] (take l.spot-index l.spots);
  runs : (machine slot : Name)
      → run_in l.runs machine slot ≡ run_of l.within machine slot (onto [] (take l.spot-index l.spots));
}
