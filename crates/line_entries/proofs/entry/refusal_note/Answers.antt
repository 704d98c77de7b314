use Rattle.desk_types.proofs.Common.{◌∙◌, ap, subst, sym}
use Rattle.line_entries.specs.Rows.{IsToldBy, note_at}
use Rattle.line_entries.proofs.ToldEntries.{refusal_told}
use Rattle.line_entries.proofs.entry.refusal_note.Goals as goal

pub returns-clause-told : goal.returns-clause-told
returns-clause-told c = λ is told s said same. subst (IsToldBy told)
    (sym (c.note_at.ensures ∙ ap (note_at c.args.place c.args.matter) c.in_ok-write_text.ensures))
    (refusal_told c.args.place c.args.matter c.args.command.now told s is said same)
