use Rattle.desk_types.proofs.Common.{refl}
use Rattle.line_schema.proofs.NotedOn.{kept_on, noted_on, not_noted}
use Rattle.line_schema.proofs.store.LineStore.note.Goals as goal

pub returns-in-Ok-clause-ok : goal.returns-in-Ok-clause-ok
returns-in-Ok-clause-ok g c L entries was next =
    noted_on g.S.Store g.D.Desk.Stands c.args.self.now _ (record { greatest = refl; count = refl; working = refl; mode = c.append_entry.ensures.inside.mode }) c.args.entry.now c.append_entry.ensures.crash c.in-Ok.ensures.done c.in-Ok.ensures.stays_open L entries was next

pub returns-in-Err-clause-err : goal.returns-in-Err-clause-err
returns-in-Err-clause-err g c L entries was =
    not_noted g.S.Store g.D.Desk.Stands c.args.self.now _ (record { greatest = refl; count = refl; working = refl; mode = c.append_entry.ensures.inside.mode }) c.append_entry.ensures.crash c.in-Err.ensures.neither L entries was

pub returns-in-Ok-clause-kept : goal.returns-in-Ok-clause-kept
returns-in-Ok-clause-kept g c = kept_on g.S.Store g.D.Desk.Stands c.args.self.now _ (record { greatest = refl; count = refl; working = refl; mode = c.append_entry.ensures.inside.mode }) c.append_entry.ensures.crash

pub returns-in-Err-clause-kept : goal.returns-in-Err-clause-kept
returns-in-Err-clause-kept g c = kept_on g.S.Store g.D.Desk.Stands c.args.self.now _ (record { greatest = refl; count = refl; working = refl; mode = c.append_entry.ensures.inside.mode }) c.append_entry.ensures.crash
