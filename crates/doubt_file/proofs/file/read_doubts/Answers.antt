use Rattle.desk_types.proofs.Common.{inl, inr, refl}
use Rattle.line_file.proofs.Closing.{finds-fault, keeps}
use Rattle.doubt_file.proofs.Closed.{finds-doubts}
use Rattle.doubt_file.proofs.file.read_doubts.Goals as goal

pub returns-in-Ok-clause-doubts : goal.returns-in-Ok-clause-doubts
returns-in-Ok-clause-doubts g c =
    finds-doubts _ c.in-Ok.conn c.read_connection-found.result.1 c.close_after.result.1
    (λ clean. (c.in-Ok.ensures.opened clean, c.in-Ok.ensures.found clean)) c.read_connection-found.ensures.reads
    c.args.within c.read_connection-found.result.0 c.close_after.result.0 c.close_after.ensures
    c.read_connection-found.ensures.ok

pub returns-in-Ok-clause-fault : goal.returns-in-Ok-clause-fault
returns-in-Ok-clause-fault g c =
    finds-fault _ c.in-Ok.conn c.read_connection-found.result.1 c.close_after.result.1
    (λ clean. (c.in-Ok.ensures.opened clean, c.in-Ok.ensures.found clean)) c.read_connection-found.ensures.reads
    c.read_connection-found.result.0 c.close_after.result.0 c.close_after.ensures
    c.read_connection-found.ensures.err

pub returns-in-Ok-clause-kept : goal.returns-in-Ok-clause-kept
returns-in-Ok-clause-kept g c =
    inl (keeps _ c.in-Ok.conn c.read_connection-found.result.1 c.close_after.result.1
    (λ clean. (c.in-Ok.ensures.opened clean, c.in-Ok.ensures.found clean)) c.read_connection-found.ensures.reads
    g.met.F.Disk.seen_may_stay c.read_connection-found.result.0 c.close_after.result.0 c.close_after.ensures)

pub returns-in-Err-clause-fault : goal.returns-in-Err-clause-fault
returns-in-Err-clause-fault g c = λ clean place. inl refl

pub returns-in-Err-clause-kept : goal.returns-in-Err-clause-kept
returns-in-Err-clause-kept g c = inr c.in-Err.ensures.unread
