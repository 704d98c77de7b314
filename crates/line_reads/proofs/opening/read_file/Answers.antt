use Rattle.desk_types.proofs.Common.{ap, inl, inr}
use Rattle.line_file.specs.declared.fault.ListFault.TheVariants.{History}
use Rattle.line_reads.proofs.ListsRead.{fault-at, line-at}
use Rattle.line_reads.proofs.opening.read_file.Goals as goal

pub returns-in-Ok-clause-lists : goal.returns-in-Ok-clause-lists
returns-in-Ok-clause-lists g c =
    line-at c.read_line-line.result.1 c.read_line-line.result.0 c.in-Ok.ensures.fresh c.args.with_rows
    c.read_line-line.ensures.lists

pub returns-in-Ok-clause-fault : goal.returns-in-Ok-clause-fault
returns-in-Ok-clause-fault g c =
    fault-at c.read_line-line.result.1 c.read_line-line.result.0 c.in-Ok.ensures.fresh c.read_line-line.ensures.fault

pub returns-in-Ok-clause-kept : goal.returns-in-Ok-clause-kept
returns-in-Ok-clause-kept g c = (c.in-Ok.files, c.in-Ok.ensures.fresh, c.read_line-line.ensures.kept)

pub returns-in-Err-clause-fault : goal.returns-in-Err-clause-fault
returns-in-Err-clause-fault g c = elim c.in-Err.ensures.err [
  | inl is ↦ inl (ap History is)
  | inr is ↦ inr (ap History is)
]
