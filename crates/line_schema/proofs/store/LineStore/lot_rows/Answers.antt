use Rattle.desk_types.proofs.Common.{refl, rules}
use Rattle.line_tables.proofs.Common.{state}
use Rattle.line_schema.proofs.{StandsAfter.reads_on, TracesOfLists.told-of}
use Rattle.line_traces.specs.Pieces.{lot_trace}
use Rattle.line_schema.proofs.store.LineStore.lot_rows.Goals as goal

pub returns-clause-trace : goal.returns-clause-trace
returns-clause-trace g c = told-of g.S.Store g.D.Desk.Stands c.args.self.now (state g.S.Store c.lot_rows.new.conn) _ (λ H. lot_trace H c.args.lot.now) c.in_ok-lot_rows.field-0 (search rules) c.lot_rows.ensures.reads.survives c.in_ok-lot_rows.ensures.trace

pub returns-in_err-lot_rows-clause-reads : goal.returns-in_err-lot_rows-clause-reads
returns-in_err-lot_rows-clause-reads g c = reads_on g.S.Store g.D.Desk.Stands c.args.self.now _ refl refl refl c.lot_rows.ensures.reads

pub returns-clause-reads : goal.returns-clause-reads
returns-clause-reads g c = reads_on g.S.Store g.D.Desk.Stands c.args.self.now _ refl refl refl c.lot_rows.ensures.reads
