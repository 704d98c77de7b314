use Rattle.desk_types.proofs.Common.{◌≡◌, All, map}
use Rattle.desk_types.specs.Id.{IsId}
use Rattle.chain_files.proofs.listed.names_in.Given as goal

-- The lines so far are these names.
abbrev pub invariant-loop-line : goal.invariant-loop-line
invariant-loop-line l = record {
  lines : l.names.items ≡ map
      (λ line. line.now) l.yielded;
  all : All IsId l.names.items;
}
