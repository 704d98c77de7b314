use Rattle.desk_types.proofs.Common.{placements_of, refl}
use Rattle.line_tables.proofs.Common.{state}
use Rattle.line_schema.proofs.{StandsAfter.reads_on, TracesOfLists.told-of}
use Rattle.line_traces.proofs.TwoCalls.{told-of-both}
use Rattle.line_schema.proofs.store.LineStore.placed_rows.Goals as goal

pub returns-clause-rows : goal.returns-clause-rows
returns-clause-rows g c =
    told-of g.S.Store g.D.Desk.Stands c.args.self.now (state g.S.Store c.placed_rows.new.conn) _ placements_of
    c.in_ok-placed_rows.field-0 refl c.placed_rows.ensures.reads.survives
    (λ clean. told-of-both g.D.Desk.Stands c.args.self.now.working placements_of
    (state g.S.Store c.args.self.now.conn) _ (c.in_ok-placed_rows.ensures.pieces clean))

pub returns-in_err-placed_rows-clause-reads : goal.returns-in_err-placed_rows-clause-reads
returns-in_err-placed_rows-clause-reads g c =
    reads_on g.S.Store g.D.Desk.Stands c.args.self.now _ refl refl refl c.placed_rows.ensures.reads

pub returns-clause-reads : goal.returns-clause-reads
returns-clause-reads g c =
    reads_on g.S.Store g.D.Desk.Stands c.args.self.now _ refl refl refl c.placed_rows.ensures.reads
