use Rattle.desk_types.proofs.Common.{arith, inl, inr}
use Rattle.sqlite_wal.specs.Files.{image_at}
use Rattle.tracedesk_line.proofs.Served.{print-few}
use Rattle.tracedesk_line.proofs.run.do_task.Goals as goal

pub close_after-requires : goal.close_after-requires
close_after-requires g c =
    let most = print-few (image_at g.T.Start) c.make_in_file-status.result.1 g.W.Write.contents g.E.Write.contents _ _ _
    _ c.make_in_file-status.ensures.ends.2 in
    omega (arith, most, c.requires.room.error_failures)

pub returns-in-Make-clause-ends : goal.returns-in-Make-clause-ends
returns-in-Make-clause-ends g c =
    let made = c.make_in_file-status in
    let ends = made.ensures.ends in
    rw c.in-Make.is
    (made.result.1, made.result.0, made.new.errors, ends.0, ends.1, ends.2, ends.3, c.close_after.ensures)

pub returns-in-Make-clause-kept : goal.returns-in-Make-clause-kept
returns-in-Make-clause-kept g c = inl c.in-Make.is

pub returns-in-Book-clause-ends : goal.returns-in-Book-clause-ends
returns-in-Book-clause-ends g c = rw c.in-Book.is c.tell_book.ensures.ends

pub returns-in-Book-clause-kept : goal.returns-in-Book-clause-kept
returns-in-Book-clause-kept g c = inr c.tell_book.ensures.kept

pub returns-in-Audit-clause-ends : goal.returns-in-Audit-clause-ends
returns-in-Audit-clause-ends g c = rw c.in-Audit.is c.audit_lists.ensures.ends

pub returns-in-Audit-clause-kept : goal.returns-in-Audit-clause-kept
returns-in-Audit-clause-kept g c = inr c.audit_lists.ensures.kept
