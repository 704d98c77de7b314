use Rattle.desk_types.proofs.Common.{refl}
use Rattle.line_schema.proofs.StandsAfter.{reads_on}
use Rattle.line_schema.proofs.store.LineStore.is_whole.Goals as goal

pub returns-clause-reads : goal.returns-clause-reads
returns-clause-reads g c = reads_on g.S.Store g.D.Desk.Stands c.args.self.now _ refl refl refl c.is_whole.ensures.reads
