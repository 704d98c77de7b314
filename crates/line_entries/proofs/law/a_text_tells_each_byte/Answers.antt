use Rattle.line_entries.proofs.EachByte.{each_byte}
use Rattle.line_entries.proofs.law.a_text_tells_each_byte.Goals as goal

pub returns : goal.returns
returns c = each_byte
