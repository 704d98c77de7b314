use Rattle.desk_laws.proofs.ChainPieces.{balance-over}
use Rattle.desk_laws.proofs.law.chain_pieces_balance.Goals as goal

pub returns : goal.returns
returns c = balance-over
