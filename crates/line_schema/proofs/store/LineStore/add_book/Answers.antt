use Rattle.desk_types.proofs.Common.{refl}
use Rattle.line_schema.proofs.NotedOn.{kept_on, left_made, made_on, not_made, survives_made}
use Rattle.line_schema.proofs.StandsAfter.{clean_before}
use Rattle.line_schema.proofs.store.LineStore.add_book.Goals as goal

pub returns-in-Ok-clause-made : goal.returns-in-Ok-clause-made
returns-in-Ok-clause-made g c L was alone =
    record {
      ok = made_on g.S.Store g.D.Desk.Stands c.args.self.now _ (record { greatest = refl; count = refl; working = refl; mode = c.make_book.ensures.inside.mode }) c.make_book.ensures.crash c.in-Ok.ensures.done c.in-Ok.ensures.stays_open L was alone;
      survives = survives_made g.S.Store g.D.Desk.Stands c.args.self.now (record c.args.self.now { conn = c.make_book.new.conn }) (record { greatest = refl; count = refl; working = refl; mode = c.make_book.ensures.inside.mode }) c.make_book.ensures.crash L was alone;
      alone = λ clean own trees may. left_made g.S.Store g.D.Desk.Stands c.args.self.now (record c.args.self.now { conn = c.make_book.new.conn }) (record { greatest = refl; count = refl; working = refl; mode = c.make_book.ensures.inside.mode }) c.make_book.ensures.crash L was alone own (clean_before _ c.make_book.ensures.crash clean) trees (c.in-Ok.ensures.alone clean trees may);
    }

pub returns-in-Err-clause-made : goal.returns-in-Err-clause-made
returns-in-Err-clause-made g c L was alone =
    record {
      ok = tt;
      survives = survives_made g.S.Store g.D.Desk.Stands c.args.self.now (record c.args.self.now { conn = c.make_book.new.conn }) (record { greatest = refl; count = refl; working = refl; mode = c.make_book.ensures.inside.mode }) c.make_book.ensures.crash L was alone;
      alone = λ clean own. tt;
    }

pub returns-in-Ok-clause-kept : goal.returns-in-Ok-clause-kept
returns-in-Ok-clause-kept g c = kept_on g.S.Store g.D.Desk.Stands c.args.self.now _ (record { greatest = refl; count = refl; working = refl; mode = c.make_book.ensures.inside.mode }) c.make_book.ensures.crash

pub returns-in-Err-clause-kept : goal.returns-in-Err-clause-kept
returns-in-Err-clause-kept g c = kept_on g.S.Store g.D.Desk.Stands c.args.self.now _ (record { greatest = refl; count = refl; working = refl; mode = c.make_book.ensures.inside.mode }) c.make_book.ensures.crash

pub returns-in-Err-clause-err : goal.returns-in-Err-clause-err
returns-in-Err-clause-err g c L was =
    not_made g.S.Store g.D.Desk.Stands c.args.self.now _ (record { greatest = refl; count = refl; working = refl; mode = c.make_book.ensures.inside.mode }) c.make_book.ensures.crash c.in-Err.ensures.neither L was
