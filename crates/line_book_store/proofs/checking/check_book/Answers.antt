use Rattle.desk_types.proofs.Common.{[], ◌++◌, ◌+◌, ◌==◌, ◌∙◌, ◌∷◌, ◌≡◌, ap, arith, err_from_is_err_and, length, subst, sym, true≢false}
use Rattle.line_tables.proofs.Common.{HasCleanDisk, state}
use Rattle.line_tables.proofs.Frames.{reads_same, reads_then}
use Rattle.line_book.specs.declared.reading.Reading.{Reading}
use Rattle.line_book_store.proofs.CheckedRows.{one_more, read_later, read_nothing, shelf_before, short_is_fault, stop_is_fault, whole_book}
use Rattle.line_book_store.proofs.ReadEntries.{read-follows}
use Rattle.line_book_store.specs.{Checking.Goes, Checking.IsReadTo, Reading.ReadsShelf}
use Rattle.line_book_store.proofs.checking.check_book.Goals as goal

pub loop-more-init : goal.loop-more-init
loop-more-init g c =
    let old = state g.S.Store c.args.conn.now in
    record {
      read = ([], subst (λ r. IsReadTo c.args.commands (HasCleanDisk old) old [] r) (sym c.new-reading.ensures) (read_nothing c.args.commands (HasCleanDisk old) old));
      none = λ is. absurd (true≢false is);
      reads = reads_same g.S.Store c.args.conn.now;
    }

pub returns-in_err-_note-clause-err : goal.returns-in_err-_note-clause-err
returns-in_err-_note-clause-err g c clean =
    let was = c.loop-more.invariant in
    let old = state g.S.Store c.args.conn.now in
    let mid = state g.S.Store c.loop-more.conn in
    let new = state g.S.Store c.next_note.new.conn in
    let early : HasCleanDisk new → HasCleanDisk mid = λ clean. omega (arith, c.next_note.ensures.reads.survives.clean, clean) in
    let p = err_from_is_err_and c.from_residual.result c.from_residual.ensures.1 in
    rw (p.1, p.2) (stop_is_fault c.args.commands (HasCleanDisk mid) (HasCleanDisk new) early old mid was.reads.kept was.read.0 c.loop-more.reading was.read.1 c.in_err-_note.field-0.0 clean (c.in_err-_note.ensures.err clean))

pub loop-more-smaller-in-Some : goal.loop-more-smaller-in-Some
loop-more-smaller-in-Some g c =
    let mid = state g.S.Store c.loop-more.conn in
    let new = state g.S.Store c.next_note.new.conn in
    let goes = subst (λ o. Goes (HasCleanDisk new) mid c.loop-more.reading c.next_note.new.reading o) c.in-Some.is c.in_ok-_note.ensures.ok in
    let next = (read-follows c.loop-more.reading goes.0 c.in-Some._note goes.1).number in
    let on : c.next_note.new.reading.entries ≡ c.in-Some._note.number = ap (λ (r : Reading). r.entries) goes.2 in
    let room = c.in_ok-_note.ensures.room in
    rw c.loop-more-test.true (omega (arith, next, on, room))

pub loop-more-preserved-in-Some : goal.loop-more-preserved-in-Some
loop-more-preserved-in-Some g c =
    let was = c.loop-more.invariant in
    let old = state g.S.Store c.args.conn.now in
    let mid = state g.S.Store c.loop-more.conn in
    let new = state g.S.Store c.next_note.new.conn in
    let early : HasCleanDisk new → HasCleanDisk mid = λ clean. omega (arith, c.next_note.ensures.reads.survives.clean, clean) in
    record {
      read = (was.read.0 ++ c.in-Some._note ∷ [], one_more c.args.commands (HasCleanDisk mid) (HasCleanDisk new) early old mid was.reads.kept was.read.0 c.loop-more.reading was.read.1 c.next_note.new.reading c.in-Some._note (subst (λ o. Goes (HasCleanDisk new) mid c.loop-more.reading c.next_note.new.reading o) c.in-Some.is c.in_ok-_note.ensures.ok));
      none = λ is. absurd (true≢false (sym c.loop-more-test.true ∙ is));
      reads = reads_then g.S.Store c.args.conn.now c.loop-more.conn c.next_note.new.conn was.reads c.next_note.ensures.reads;
    }

pub returns-then-not-whole-clause-err : goal.returns-then-not-whole-clause-err
returns-then-not-whole-clause-err g c clean =
    let was = c.loop-more.invariant in
    let old = state g.S.Store c.args.conn.now in
    let mid = state g.S.Store c.loop-more.conn in
    let early : HasCleanDisk mid = omega (arith, c.is_whole.ensures.reads.survives.clean, clean) in
    let b = c.loop-more.reading in
    let short = subst (λ w. ReadsShelf mid (λ rows. w ≡ (b.entries == length rows))) c.if-not-whole.true (c.in_ok-whole.ensures.counted clean) in
    short_is_fault c.args.commands (HasCleanDisk mid) old was.read.0 b was.read.1 early (was.none c.loop-more-test.false early) (shelf_before old mid _ (was.reads.kept early) short) _ c.wrong_after.ensures

pub returns-clause-ok : goal.returns-clause-ok
returns-clause-ok g c =
    let was = c.loop-more.invariant in
    let old = state g.S.Store c.args.conn.now in
    let mid = state g.S.Store c.loop-more.conn in
    let new = state g.S.Store c.is_whole.new.conn in
    let early : HasCleanDisk new → HasCleanDisk mid = λ clean. omega (arith, c.is_whole.ensures.reads.survives.clean, clean) in
    let b = c.loop-more.reading in
    whole_book c.args.commands (HasCleanDisk new) old was.read.0 b (read_later c.args.commands (HasCleanDisk mid) (HasCleanDisk new) old was.read.0 b early was.read.1)
    (λ clean. shelf_before old mid _ (was.reads.kept (early clean)) (subst (λ w. ReadsShelf mid (λ rows. w ≡ (b.entries == length rows))) c.if-not-whole.false (c.in_ok-whole.ensures.counted clean)))
