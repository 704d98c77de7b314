use Rattle.trace_reports.proofs.ReadBack.{reads-back}
use Rattle.trace_reports.proofs.text_laws.texts_read_back.Goals as goal

pub returns : goal.returns
returns c = reads-back
