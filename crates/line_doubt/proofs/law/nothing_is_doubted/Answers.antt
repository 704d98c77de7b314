use Rattle.line_doubt.proofs.Nothing.{no-doubt}
use Rattle.line_doubt.proofs.law.nothing_is_doubted.Goals as goal

pub returns : goal.returns
returns c = no-doubt
