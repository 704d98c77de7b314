use Rattle.desk_laws.proofs.Chains.{alike-chain}
use Rattle.desk_laws.proofs.law.alike_desks_chain.Goals as goal

pub returns : goal.returns
returns c = alike-chain
