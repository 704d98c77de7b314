use Rattle.desk_types.proofs.Common.{ap, inl, inr}
use Rattle.line_file.specs.declared.fault.ListFault.TheVariants.{History}
use Rattle.line_reads.proofs.ListsRead.{doubts-at, fault-at}
use Rattle.line_reads.proofs.opening.find_doubts.Goals as goal

pub returns-in-Ok-clause-doubts : goal.returns-in-Ok-clause-doubts
returns-in-Ok-clause-doubts g c =
    doubts-at c.read_doubts-found.result.1 c.read_doubts-found.result.0 c.in-Ok.ensures.fresh c.args.within
    c.read_doubts-found.ensures.doubts

pub returns-in-Ok-clause-fault : goal.returns-in-Ok-clause-fault
returns-in-Ok-clause-fault g c =
    fault-at c.read_doubts-found.result.1 c.read_doubts-found.result.0 c.in-Ok.ensures.fresh
    c.read_doubts-found.ensures.fault

pub returns-in-Ok-clause-kept : goal.returns-in-Ok-clause-kept
returns-in-Ok-clause-kept g c = (c.in-Ok.files, c.in-Ok.ensures.fresh, c.read_doubts-found.ensures.kept)

pub returns-in-Err-clause-fault : goal.returns-in-Err-clause-fault
returns-in-Err-clause-fault g c = elim c.in-Err.ensures.err [
  | inl is ↦ inl (ap History is)
  | inr is ↦ inr (ap History is)
]
