use Rattle.line_entries.proofs.Reading.{row_read}
use Rattle.line_entries.proofs.ToldMessages.{then_ok}
use Rattle.line_entries.proofs.row.row_of.Goals as goal

pub returns-clause-back : goal.returns-clause-back
returns-clause-back c = then_ok c.write_row.result (λ row is before named next tells has.
    row_read before c.args.note.now c.args.sender.now c.args.told.now row named is next tells has) c.write_row.ensures
