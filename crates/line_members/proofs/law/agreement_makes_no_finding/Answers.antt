use Rattle.line_members.proofs.Agreeing.{no_finding}
use Rattle.line_members.proofs.law.agreement_makes_no_finding.Goals as goal

pub returns : goal.returns
returns c = no_finding
