use Rattle.desk_types.proofs.Common.{subst, sym}
use Rattle.line_tables.proofs.Common.{Held, ReadsOnly, state}
use Rattle.line_schema.specs.Stands.{conn_of, state_of}
use Rattle.line_file.specs.Lists.{IsSound}
use Rattle.doubt_file.specs.Doubts.{ReadsDoubts}
use Rattle.doubt_file.proofs.store.read_store.Goals as goal

pub returns-in-Ok-clause-ok : goal.returns-in-Ok-clause-ok
returns-in-Ok-clause-ok g c L stands =
    subst (λ (k : Held g.row.S.Denot). ReadsDoubts L c.args.within (IsSound (state g.S.Store k))
    (state_of g.S.Store c.args.store) c.in-Ok.found.items) (sym c.into_connection-conn.ensures)
    (c.in-Ok.ensures.ok L stands)

pub returns-in-Err-clause-err : goal.returns-in-Err-clause-err
returns-in-Err-clause-err g c L stands sound =
    c.in-Err.ensures.err L stands
    (subst (λ (k : Held g.row.S.Denot). IsSound (state g.S.Store k)) c.into_connection-conn.ensures sound)

pub returns-in-Ok-clause-reads : goal.returns-in-Ok-clause-reads
returns-in-Ok-clause-reads g c =
    subst (λ (k : Held g.row.S.Denot). ReadsOnly g.S.Store (conn_of c.args.store) k)
    (sym c.into_connection-conn.ensures)
    c.doubts_of-found.ensures.reads.reads

pub returns-in-Err-clause-reads : goal.returns-in-Err-clause-reads
returns-in-Err-clause-reads g c =
    subst (λ (k : Held g.row.S.Denot). ReadsOnly g.S.Store (conn_of c.args.store) k)
    (sym c.into_connection-conn.ensures)
    c.doubts_of-found.ensures.reads.reads
