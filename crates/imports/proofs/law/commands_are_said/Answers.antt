use Rattle.imports.proofs.SaidByFile.{counts_are_said, sheets_are_said}
use Rattle.imports.proofs.law.commands_are_said.Goals as goal

pub returns-clause-sheets : goal.returns-clause-sheets
returns-clause-sheets c = sheets_are_said

pub returns-clause-counts : goal.returns-clause-counts
returns-clause-counts c = counts_are_said
