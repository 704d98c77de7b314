use Rattle.desk_types.proofs.Common.{◌∙◌, ap, sym}
use Rattle.cfx_profile.{proofs.Names.id_of-read, specs.Forms.id_of}
use Rattle.line_entries.proofs.Words.{refusal_word-id}
use Rattle.line_entries.specs.Refusal.{answer_word}
use Rattle.line_entries.proofs.refusal.answer_word.Goals as goal

pub returns-in-Refused : goal.returns-in-Refused
returns-in-Refused c = id_of-read _ _ c.read.ensures ∙ ap id_of (c.as_bytes.ensures.value ∙ c.refusal_word.ensures)
    ∙ refusal_word-id _ ∙ sym (ap answer_word c.in-Refused.is)
