use Rattle.desk_types.proofs.Common.{[], Bool, subst}
use Rattle.line_tables.proofs.Common.{over_files}
use Rattle.line_schema.specs.Stands.{Stands}
use Rattle.line_tables.proofs.Ours.{is_blank_of}
use Rattle.desk_file.proofs.memory.in_memory.Goals as goal

pub returns-in-Ok : goal.returns-in-Ok
returns-in-Ok g c = record {
  stands = subst (λ (own : Bool). Stands over_files g.D.Desk.Stands c.in-Ok.store (record { greatest = c.args.greatest; history = []; own = own })) (is_blank_of _ c.in_ok-conn.ensures.empty.2) c.in-Ok.ensures.made.stands;
}
