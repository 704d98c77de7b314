use Rattle.line_members.proofs.Entries.{of_change}
use Rattle.line_members.proofs.law.findings_are_plain.Goals as goal

pub returns : goal.returns
returns c = of_change
