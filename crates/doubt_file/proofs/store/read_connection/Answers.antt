use Rattle.desk_types.proofs.Common.{arith, IfOk-weaker, IsTrue, subst}
use Rattle.line_tables.proofs.Common.{Database, HasCleanDisk, state}
use Rattle.line_tables.proofs.Frames.{reads_then}
use Rattle.line_schema.specs.Stands.{conn_of, state_of}
use Rattle.book_store.proofs.Finding.{err_weaker}
use Rattle.book_store.specs.Opened.{HasPlace}
use Rattle.line_file.proofs.Lines.{fault-first}
use Rattle.line_file.specs.Lists.{HoldsRows, IsNamed}
use Rattle.doubt_file.proofs.store.read_connection.Goals as goal

pub returns-in-Ok-clause-ok : goal.returns-in-Ok-clause-ok
returns-in-Ok-clause-ok g c =
    let L = c.in-Ok.ensures.opened.0 in
    let opens = c.in-Ok.ensures.opened.1 in
    let old = state g.S.Store c.args.conn in
    let mid = state_of g.S.Store c.in-Ok.store in
    let new = state g.S.Store c.read_store.result.1 in
    let early : HasCleanDisk new → HasCleanDisk mid = λ clean. omega
    (arith, c.read_store.ensures.reads.survives.clean, clean) in
    let opened : HasCleanDisk new → IsTrue new.is_open → IsTrue mid.is_open = λ clean.
    (c.read_store.ensures.reads.kept clean).was_open in
    IfOk-weaker c.read_store.result.0 _ _
    (λ found is. record {
      L = L;
      own = opens.own;
      tables = λ sound. opens.tables (early sound.0);
      is = record {
        rows = is.rows;
        notes = is.notes;
        read = is.read;
        named = λ sound. subst IsNamed ((opens.reads.kept (early sound.0)).committed (opened sound.0 sound.1))
            (is.named sound);
        book = λ sound. subst (λ (db : Database). HasPlace db → HoldsRows db is.rows)
            ((opens.reads.kept (early sound.0)).committed (opened sound.0 sound.1)) (is.book sound);
        explained = is.explained;
      };
    })
    (c.read_store.ensures.ok L opens.stands)

pub returns-in-Ok-clause-err : goal.returns-in-Ok-clause-err
returns-in-Ok-clause-err g c sound =
    let L = c.in-Ok.ensures.opened.0 in
    let opens = c.in-Ok.ensures.opened.1 in
    let old = state g.S.Store c.args.conn in
    let mid = state_of g.S.Store c.in-Ok.store in
    let new = state g.S.Store c.read_store.result.1 in
    let early : HasCleanDisk mid = omega (arith, c.read_store.ensures.reads.survives.clean, sound.0) in
    err_weaker c.read_store.result.0 _ _
    (λ fault is. fault-first L old mid fault (opens.reads.kept early)
    ((c.read_store.ensures.reads.kept sound.0).was_open sound.1) (opens.tables early) is)
    (c.read_store.ensures.err L opens.stands sound)

pub returns-in-Ok-clause-reads : goal.returns-in-Ok-clause-reads
returns-in-Ok-clause-reads g c =
    reads_then g.S.Store c.args.conn (conn_of c.in-Ok.store) c.read_store.result.1 c.in-Ok.ensures.opened.1.reads
    c.read_store.ensures.reads

pub returns-in-Err-clause-err : goal.returns-in-Err-clause-err
returns-in-Err-clause-err g c sound = (c.in-Err.ensures.fault.holds sound.0, c.in-Err.ensures.fault.told)
