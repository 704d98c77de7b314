use Rattle.desk_laws.proofs.ChainLots.{boards-union, lots-union, over-converse}
use Rattle.desk_laws.proofs.law.chain_recalls_agree.Goals as goal

pub returns : goal.returns
returns c = record { boards = boards-union; lots = lots-union; converse = over-converse }
