use Rattle.chain_check.proofs.Gaps.{no-gap, used-up}
use Rattle.chain_check.proofs.law.gaps_are_refused.Goals as goal

pub returns-clause-gap : goal.returns-clause-gap
returns-clause-gap c = no-gap

pub returns-clause-used_up : goal.returns-clause-used_up
returns-clause-used_up c = used-up
