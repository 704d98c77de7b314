use Rattle.desk_types.proofs.Common.{[], ◌==◌, ◌∙◌, ◌≡◌, ap, arith, err_from_is_err_and, length, rules}
use Rattle.desk_types.proofs.Common.{subst, sym, true≢false}
use Rattle.line_tables.proofs.Common.{HasCleanDisk}
use Rattle.line_book.specs.declared.reading.Reading.{Reading}
use Rattle.line_book.specs.Rows.{first_reading}
use Rattle.line_book_store.proofs.CheckedRows.{one_more, read_later, read_nothing, shelf_before}
use Rattle.line_book_store.proofs.ReadEntries.{read-follows}
use Rattle.line_book_store.specs.{Checking.AreRead, Checking.Goes, Checking.IsReadTo, Reading.ReadsShelf}
use Rattle.line_schema.specs.Stands.{state_of}
use Rattle.book_store.proofs.{InTurn.short_wrong, InTurn.stops_wrong}
use Rattle.book_store.proofs.{InTurn.store_same, InTurn.store_then}
use Rattle.book_store.proofs.{WholeBook.all_read}
use Rattle.book_store.specs.Restored.{IsWrong}
use Rattle.doubt_file.proofs.entries.entries_of.Goals as goal

pub loop-more-init : goal.loop-more-init
loop-more-init g c =
    let old = state_of g.S.Store c.args.store.now in
    let commands = c.count-commands.result in
    let same : c.from.result ≡ commands = search rules in
    record {
      read = subst (λ ns. IsReadTo commands (HasCleanDisk old) old ns c.new-reading.result)
          (sym c.new-notes.ensures.items)
          (subst (λ r. IsReadTo commands (HasCleanDisk old) old [] r)
          (sym (c.new-reading.ensures ∙ ap first_reading same)) (read_nothing commands (HasCleanDisk old) old));
      none = λ is. absurd (true≢false is);
      reads = store_same g.S.Store g.D.Desk.Stands c.args.store.now;
    }

pub returns-in_err-note-clause-err : goal.returns-in_err-note-clause-err
returns-in_err-note-clause-err g c L stands clean =
    let was = c.loop-more.invariant in
    let old = state_of g.S.Store c.args.store.now in
    let mid = state_of g.S.Store c.loop-more.store in
    let new = state_of g.S.Store c.next_note.new.self in
    let early : HasCleanDisk new → HasCleanDisk mid = λ clean. omega
    (arith, c.next_note.ensures.reads.reads.survives.clean, clean) in
    let p = err_from_is_err_and c.from_residual.result c.from_residual.ensures.1 in
    rw (p.1, p.2) (subst (λ k. IsWrong k old c.in_err-note.field-0.0) (c.count-commands.ensures L stands)
    (stops_wrong c.count-commands.result (HasCleanDisk mid) old c.loop-more.notes.items c.loop-more.reading was.read
    (HasCleanDisk new) mid early was.reads.reads.kept c.in_err-note.field-0.0 clean
    (c.in_err-note.ensures.err clean)))

pub loop-more-smaller-in-Continue-branch-3 : goal.loop-more-smaller-in-Continue-branch-3
loop-more-smaller-in-Continue-branch-3 g c =
    let mid = state_of g.S.Store c.loop-more.store in
    let new = state_of g.S.Store c.next_note.new.self in
    let goes = subst (λ o. Goes (HasCleanDisk new) mid c.loop-more.reading c.next_note.new.reading o) c.in-Some.is
    c.in_ok-note.ensures.ok in
    let next = (read-follows c.loop-more.reading goes.0 c.in-Some.note goes.1).number in
    let on : c.next_note.new.reading.entries ≡ c.in-Some.note.number = ap (λ (r : Reading). r.entries) goes.2 in
    let room = c.in_ok-note.ensures.room in
    rw c.loop-more-test.true (omega (arith, next, on, room))

pub loop-more-preserved-in-Continue-branch-3 : goal.loop-more-preserved-in-Continue-branch-3
loop-more-preserved-in-Continue-branch-3 g c =
    let was = c.loop-more.invariant in
    let old = state_of g.S.Store c.args.store.now in
    let mid = state_of g.S.Store c.loop-more.store in
    let new = state_of g.S.Store c.next_note.new.self in
    let commands = c.count-commands.result in
    let notes = c.loop-more.notes.items in
    let b = c.loop-more.reading in
    let n = c.in-Some.note in
    let goes = subst (λ o. Goes (HasCleanDisk new) mid b c.next_note.new.reading o) c.in-Some.is
    c.in_ok-note.ensures.ok in
    let before : HasCleanDisk new → HasCleanDisk mid = λ clean. omega
    (arith, c.next_note.ensures.reads.reads.survives.clean, clean) in
    record {
      read = subst (λ ns. IsReadTo commands (HasCleanDisk new) old ns c.next_note.new.reading)
          (sym c.in_ok-add-in-Some.ensures)
          (one_more commands (HasCleanDisk mid) (HasCleanDisk new) before old mid was.reads.reads.kept
          notes b was.read c.next_note.new.reading n goes);
      none = λ is. absurd (true≢false (sym c.loop-more-test.true ∙ is));
      reads = store_then g.S.Store g.D.Desk.Stands c.args.store.now c.loop-more.store c.next_note.new.self
          was.reads c.next_note.ensures.reads;
    }

pub returns-then-not-whole-clause-err : goal.returns-then-not-whole-clause-err
returns-then-not-whole-clause-err g c L stands clean =
    let was = c.loop-more.invariant in
    let old = state_of g.S.Store c.args.store.now in
    let mid = state_of g.S.Store c.loop-more.store in
    let early : HasCleanDisk mid = omega (arith, c.is_whole.ensures.reads.reads.survives.clean, clean) in
    let b = c.loop-more.reading in
    let short = subst (λ w. ReadsShelf mid (λ rows. w ≡ (b.entries == length rows))) c.if-not-whole.true
    (c.in_ok-whole.ensures.counted clean) in
    subst (λ k. IsWrong k old c.wrong_after.result) (c.count-commands.ensures L stands)
    (short_wrong c.count-commands.result (HasCleanDisk mid) old c.loop-more.notes.items b was.read early
    (was.none c.loop-more-test.false early) (shelf_before old mid _ (was.reads.reads.kept early) short) _
    c.wrong_after.ensures)

pub returns-clause-ok : goal.returns-clause-ok
returns-clause-ok g c L stands =
    let was = c.loop-more.invariant in
    let old = state_of g.S.Store c.args.store.now in
    let mid = state_of g.S.Store c.loop-more.store in
    let new = state_of g.S.Store c.is_whole.new.self in
    let commands = c.count-commands.result in
    let counted : commands ≡ length L.history = c.count-commands.ensures L stands in
    let notes = c.loop-more.notes.items in
    let b = c.loop-more.reading in
    let before : HasCleanDisk new → HasCleanDisk mid = λ clean. omega
    (arith, c.is_whole.ensures.reads.reads.survives.clean, clean) in
    let read : IsReadTo commands (HasCleanDisk new) old notes b = read_later commands (HasCleanDisk mid)
    (HasCleanDisk new) old notes b before was.read in
    record {
      rows = read.entries;
      read = (b, subst (λ k. AreRead (first_reading k) read.entries notes b) counted read.read);
      all = all_read commands (HasCleanDisk new) old notes b read
          (λ clean. shelf_before old mid _ (was.reads.reads.kept (before clean))
          (subst (λ w. ReadsShelf mid (λ rows. w ≡ (b.entries == length rows))) c.if-not-whole.false
          (c.in_ok-whole.ensures.counted clean)));
    }
