use Rattle.chain_check.proofs.FoundBoards.{any-begin, found-boards, found-lots}
use Rattle.chain_check.proofs.FoundReels.{found-names}
use Rattle.chain_check.proofs.law.recalls_find_all_boards.Goals as goal

pub returns : goal.returns
returns c = record { named = found-names; all = found-boards; lots = found-lots; any_begin = any-begin }
