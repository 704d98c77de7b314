use Rattle.desk_types.proofs.Common.{◌≡◌, ap, IfErr, IfOk, subst, sym}
use Rattle.line_tables.proofs.Common.{Held, ReadsOnly, state}
use Rattle.desk_types.specs.Desk.{HasRoom}
use Rattle.line_schema.specs.Stands.{conn_of, state_of, WorksFor}
use Rattle.line_file.proofs.Lines.{fault-is, has-room, line-is}
use Rattle.line_file.specs.Lines.{IsLineOf, IsListFault, line_of}
use Rattle.line_file.specs.Lists.{IsSound}
use Rattle.line_file.proofs.store.read_store.Goals as goal

pub returns-clause-ok : goal.returns-clause-ok
returns-clause-ok g c L stands =
    let Is = IsLineOf g.D.Desk.Stands L c.args.with_rows in
    let old = state_of g.S.Store c.args.store in
    let store = c.read_lists-lists.new.store in
    let now = c.read_lists-lists.ensures.reads.stands L stands in
    let conn = ap (λ (p : _ × _). p.0) c.into_parts-conn.ensures in
    let work = ap (λ (p : _ × _). p.1) c.into_parts-conn.ensures in
    let line = line-is g.D.Desk.Stands L c.count-commands.result c.args.with_rows (IsSound (state_of g.S.Store store))
    old
    c.read_lists-lists.result c.into_parts-conn.result.1 (c.read_lists-lists.ensures.ok L stands)
    (subst (λ k. WorksFor g.D.Desk.Stands k L.history) (sym work) now.working)
    (c.count-commands.ensures L stands) in
    subst (λ r. IfOk r (Is (IsSound (state g.S.Store c.into_parts-conn.result.0)) old)) (sym c.line_of.ensures)
    (subst (λ (k : Held g.row.S.Denot). IfOk (line_of c.count-commands.result c.read_lists-lists.result
    c.into_parts-conn.result.1) (Is (IsSound (state g.S.Store k)) old)) (sym conn) line)

pub returns-clause-err : goal.returns-clause-err
returns-clause-err g c L stands sound =
    let old = state_of g.S.Store c.args.store in
    let conn = ap (λ (p : _ × _). p.0) c.into_parts-conn.ensures in
    let now = subst (λ (k : Held g.row.S.Denot). IsSound (state g.S.Store k)) conn sound in
    subst (λ r. IfErr r (IsListFault L old)) (sym c.line_of.ensures)
    (fault-is L c.count-commands.result old c.read_lists-lists.result c.into_parts-conn.result.1
    (c.read_lists-lists.ensures.err L stands now))

pub returns-clause-room : goal.returns-clause-room
returns-clause-room g c L stands =
    let work = ap (λ (p : _ × _). p.1) c.into_parts-conn.ensures in
    subst (λ r. IfOk r (λ line. HasRoom g.D.Desk.Stands line.desk 0)) (sym c.line_of.ensures)
    (has-room g.S.Store g.D.Desk.Stands c.read_lists-lists.new.store L c.count-commands.result c.read_lists-lists.result
    c.into_parts-conn.result.1 (c.read_lists-lists.ensures.reads.stands L stands) work)

pub returns-clause-reads : goal.returns-clause-reads
returns-clause-reads g c =
    let conn = ap (λ (p : _ × _). p.0) c.into_parts-conn.ensures in
    subst (λ (k : Held g.row.S.Denot). ReadsOnly g.S.Store (conn_of c.args.store) k) (sym conn)
    c.read_lists-lists.ensures.reads.reads
