use Rattle.desk_types.proofs.Common.{overdue_of, refl, rules}
use Rattle.line_tables.proofs.Common.{state}
use Rattle.line_schema.proofs.{StandsAfter.reads_on, TracesOfLists.told-of}
use Rattle.line_schema.proofs.store.LineStore.overdue_rows.Goals as goal

pub returns-clause-rows : goal.returns-clause-rows
returns-clause-rows g c = told-of g.S.Store g.D.Desk.Stands c.args.self.now (state g.S.Store c.overdue_rows.new.conn) _ overdue_of c.in_ok-overdue_rows.field-0 (search rules) c.overdue_rows.ensures.reads.survives c.in_ok-overdue_rows.ensures.rows

pub returns-in_err-overdue_rows-clause-reads : goal.returns-in_err-overdue_rows-clause-reads
returns-in_err-overdue_rows-clause-reads g c = reads_on g.S.Store g.D.Desk.Stands c.args.self.now _ refl refl refl c.overdue_rows.ensures.reads

pub returns-clause-reads : goal.returns-clause-reads
returns-clause-reads g c = reads_on g.S.Store g.D.Desk.Stands c.args.self.now _ refl refl refl c.overdue_rows.ensures.reads
