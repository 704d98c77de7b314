use Rattle.desk_types.proofs.Common.{◌∙◌, sym}
use Rattle.line_book.proofs.RowsRead.{follows-read}
use Rattle.line_book.proofs.reading.Reading.next.Goals as goal

pub returns-clause-follows : goal.returns-clause-follows
returns-clause-follows c =
    let told = follows-read c.args.self.now c.args.row.now c.read-named.result c.in-Ok.matter c.in-Some.text
    (sym c.matter.ensures ∙ c.in-Ok.is) in
    record { number = told.number; rises = told.rises; within = told.within; earlier = told.earlier }
