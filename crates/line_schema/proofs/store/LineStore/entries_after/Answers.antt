use Rattle.desk_types.proofs.Common.{arith, refl}
use Rattle.line_schema.proofs.StandsAfter.{reads_on}
use Rattle.line_tables.proofs.Common.{HasCleanDisk, state}
use Rattle.line_schema.proofs.store.LineStore.entries_after.Goals as goal

pub returns-in-Ok-clause-window : goal.returns-in-Ok-clause-window
returns-in-Ok-clause-window g c L entries was own clean =
    let early : HasCleanDisk (state g.S.Store c.args.self.now.conn) = omega (arith, c.entries_after.ensures.reads.survives.clean, clean) in
    let found = c.in-Ok.ensures.window clean in
    found.are entries (was.book early own found.was_open)

pub returns-in-Ok-clause-reads : goal.returns-in-Ok-clause-reads
returns-in-Ok-clause-reads g c = reads_on g.S.Store g.D.Desk.Stands c.args.self.now _ refl refl refl c.entries_after.ensures.reads

pub returns-in-Err-clause-reads : goal.returns-in-Err-clause-reads
returns-in-Err-clause-reads g c = reads_on g.S.Store g.D.Desk.Stands c.args.self.now _ refl refl refl c.entries_after.ensures.reads
