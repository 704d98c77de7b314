use Rattle.desk_types.proofs.Common.{◌≡◌, Err, IfErr, IfOk, inl, inr, refl, subst, sym}
use Rattle.line_tables.proofs.Common.{file_state, HasCleanDisk, state}
use Rattle.desk_file.specs.Refused.{IsUnchangedSince}
use Rattle.line_file.proofs.Closing.{keeps, finds-fault, finds-line, room}
use Rattle.line_file.proofs.file.read_line.Goals as goal

pub returns-in-Ok-clause-lists : goal.returns-in-Ok-clause-lists
returns-in-Ok-clause-lists g c =
    finds-line _ c.in-Ok.conn c.read_connection-line.result.1 c.close_after.result.1
    (λ clean. (c.in-Ok.ensures.opened clean, c.in-Ok.ensures.found clean)) c.read_connection-line.ensures.reads
    g.D.Desk.Stands c.args.with_rows c.read_connection-line.result.0 c.close_after.result.0 c.close_after.ensures
    c.read_connection-line.ensures.ok

pub returns-in-Ok-clause-fault : goal.returns-in-Ok-clause-fault
returns-in-Ok-clause-fault g c =
    finds-fault _ c.in-Ok.conn c.read_connection-line.result.1 c.close_after.result.1
    (λ clean. (c.in-Ok.ensures.opened clean, c.in-Ok.ensures.found clean)) c.read_connection-line.ensures.reads
    c.read_connection-line.result.0 c.close_after.result.0 c.close_after.ensures
    c.read_connection-line.ensures.err

pub returns-in-Ok-clause-room : goal.returns-in-Ok-clause-room
returns-in-Ok-clause-room g c =
    room g.D.Desk.Stands c.read_connection-line.result.0 c.close_after.result.0 c.read_connection-line.result.1
    c.close_after.result.1 c.close_after.ensures c.read_connection-line.ensures.room

pub returns-in-Ok-clause-kept : goal.returns-in-Ok-clause-kept
returns-in-Ok-clause-kept g c =
    inl (keeps _ c.in-Ok.conn c.read_connection-line.result.1 c.close_after.result.1
    (λ clean. (c.in-Ok.ensures.opened clean, c.in-Ok.ensures.found clean)) c.read_connection-line.ensures.reads
    g.met.F.Disk.seen_may_stay c.read_connection-line.result.0 c.close_after.result.0 c.close_after.ensures)

pub returns-in-Err-clause-fault : goal.returns-in-Err-clause-fault
returns-in-Err-clause-fault g c = λ clean place. inl refl

pub returns-in-Err-clause-kept : goal.returns-in-Err-clause-kept
returns-in-Err-clause-kept g c = inr c.in-Err.ensures.unread
