use Rattle.desk_types.proofs.Common.{[], ◌++◌, ◌==◌, ◌∙◌, ◌∷◌, ◌≡◌, ap, arith, err_from_is_err_and, length, rules}
use Rattle.desk_types.proofs.Common.{subst, sym, true≢false}
use Rattle.line_tables.proofs.Common.{HasCleanDisk}
use Rattle.line_book.specs.declared.reading.Reading.{Reading}
use Rattle.line_book.specs.{Guard.IsGuard, Rows.first_reading}
use Rattle.line_book_store.proofs.CheckedRows.{one_more, read_later, read_nothing, shelf_before}
use Rattle.line_book_store.proofs.ReadEntries.{read-follows}
use Rattle.line_book_store.specs.{Checking.AreRead, Checking.Goes, Checking.IsReadTo, Reading.ReadsShelf}
use Rattle.line_schema.specs.Stands.{state_of}
use Rattle.book_store.proofs.{InTurn.next_place, InTurn.placed_next, InTurn.short_wrong, InTurn.stops_wrong}
use Rattle.book_store.proofs.{InTurn.store_same, InTurn.store_then, Until.all_until, Until.none_until}
use Rattle.book_store.proofs.{WholeBook.all_read}
use Rattle.book_store.specs.Restored.{history_until, IsWrong}
use Rattle.book_store.proofs.restoring.restore.Goals as goal

pub loop-more-init : goal.loop-more-init
loop-more-init g c =
    let old = state_of g.S.Store c.args.store.now in
    let same : c.from.result ≡ c.count-commands.result = search rules in
    let zero : c.new-reading.result.after ≡ 0 = ap (λ (r : Reading). r.after) c.new-reading.ensures in
    record {
      read = (
        [],
        subst (λ r. IsReadTo c.count-commands.result (HasCleanDisk old) old [] r)
            (sym (c.new-reading.ensures ∙ ap first_reading same)) (read_nothing c.count-commands.result
            (HasCleanDisk old) old),
        λ L stands clean own. subst (λ k. IsGuard (history_until k L.history) [] c.new-guard.result) (sym zero)
            (subst (λ H. IsGuard H [] c.new-guard.result) (sym (none_until L.history)) c.new-guard.ensures),
      );
      within = omega (arith, zero);
      none = λ is. absurd (true≢false is);
      reads = store_same g.S.Store g.D.Desk.Stands c.args.store.now;
    }

pub returns-in_err-note-clause-err : goal.returns-in_err-note-clause-err
returns-in_err-note-clause-err g c L stands clean =
    let was = c.loop-more.invariant in
    let old = state_of g.S.Store c.args.store.now in
    let mid = state_of g.S.Store c.loop-more.store in
    let new = state_of g.S.Store c.next_note.new.self in
    let early : HasCleanDisk new → HasCleanDisk mid = λ clean. omega
    (arith, c.next_note.ensures.reads.reads.survives.clean, clean) in
    let p = err_from_is_err_and c.from_residual.result c.from_residual.ensures.1 in
    rw (p.1, p.2) (subst (λ k. IsWrong k old c.in_err-note.field-0.0) (c.count-commands.ensures L stands)
    (stops_wrong c.count-commands.result (HasCleanDisk mid) old was.read.0 c.loop-more.reading was.read.1
    (HasCleanDisk new) mid early was.reads.reads.kept c.in_err-note.field-0.0 clean
    (c.in_err-note.ensures.err clean)))

pub loop-more-smaller-in-Some : goal.loop-more-smaller-in-Some
loop-more-smaller-in-Some g c =
    let mid = state_of g.S.Store c.loop-more.store in
    let new = state_of g.S.Store c.next_note.new.self in
    let goes = subst (λ o. Goes (HasCleanDisk new) mid c.loop-more.reading c.next_note.new.reading o) c.in-Some.is
    c.in_ok-note.ensures.ok in
    let next = (read-follows c.loop-more.reading goes.0 c.in-Some.note goes.1).number in
    let on : c.next_note.new.reading.entries ≡ c.in-Some.note.number = ap (λ (r : Reading). r.entries) goes.2 in
    let room = c.in_ok-note.ensures.room in
    rw c.loop-more-test.true (omega (arith, next, on, room))

pub loop-more-preserved-in-Some : goal.loop-more-preserved-in-Some
loop-more-preserved-in-Some g c =
    let was = c.loop-more.invariant in
    let old = state_of g.S.Store c.args.store.now in
    let mid = state_of g.S.Store c.loop-more.store in
    let seen = state_of g.S.Store c.next_note.new.self in
    let new = state_of g.S.Store c.advance.new.store in
    let commands = c.count-commands.result in
    let b = c.loop-more.reading in
    let n = c.in-Some.note in
    let goes = subst (λ o. Goes (HasCleanDisk seen) mid b c.next_note.new.reading o) c.in-Some.is
    c.in_ok-note.ensures.ok in
    let before : HasCleanDisk seen → HasCleanDisk mid = λ clean. omega
    (arith, c.next_note.ensures.reads.reads.survives.clean, clean) in
    let during : HasCleanDisk new → HasCleanDisk seen = λ clean. omega
    (arith, c.advance.ensures.reads.reads.survives.clean, clean) in
    let next = next_place commands (HasCleanDisk mid) old was.read.0 b was.read.1
    (HasCleanDisk seen) mid c.next_note.new.reading n goes in
    record {
      read = (
        was.read.0 ++ n ∷ [],
        read_later commands (HasCleanDisk seen) (HasCleanDisk new) old _ _ during
            (one_more commands (HasCleanDisk mid) (HasCleanDisk seen) before old mid was.reads.reads.kept
            was.read.0 b was.read.1 c.next_note.new.reading n goes),
        λ L stands clean own.
            let counted = c.count-commands.ensures L stands in
            let here = c.next_note.ensures.reads.stands L (was.reads.stands L stands) in
            let guard = was.read.2 L stands (before (during clean)) own in
            let there = c.in_ok-advance-in-Some.ensures.guard L here clean own next.0
            (omega (arith, next.1, counted)) was.read.0 guard in
            subst (λ k. IsGuard (history_until k L.history) (was.read.0 ++ n ∷ []) c.noted.new.self) (sym next.2)
            (c.in_ok-noted-in-Some.ensures (history_until n.after L.history) was.read.0 there
            (placed_next commands (HasCleanDisk mid) old was.read.0 b was.read.1
            (HasCleanDisk seen) mid c.next_note.new.reading n goes L.history counted)),
      );
      within = omega (arith, next.1, next.2);
      none = λ is. absurd (true≢false (sym c.loop-more-test.true ∙ is));
      reads = store_then g.S.Store g.D.Desk.Stands c.args.store.now c.loop-more.store c.advance.new.store
          was.reads (store_then g.S.Store g.D.Desk.Stands c.loop-more.store c.next_note.new.self
          c.advance.new.store c.next_note.ensures.reads c.advance.ensures.reads);
    }

pub returns-then-not-whole-clause-err : goal.returns-then-not-whole-clause-err
returns-then-not-whole-clause-err g c L stands clean =
    let was = c.loop-more.invariant in
    let old = state_of g.S.Store c.args.store.now in
    let mid = state_of g.S.Store c.loop-more.store in
    let early : HasCleanDisk mid = omega (arith, c.is_whole.ensures.reads.reads.survives.clean, clean) in
    let b = c.loop-more.reading in
    let short = subst (λ w. ReadsShelf mid (λ rows. w ≡ (b.entries == length rows))) c.if-not-whole.true
    (c.in_ok-whole.ensures.counted clean) in
    subst (λ k. IsWrong k old c.wrong_after.result) (c.count-commands.ensures L stands)
    (short_wrong c.count-commands.result (HasCleanDisk mid) old was.read.0 b was.read.1 early
    (was.none c.loop-more-test.false early) (shelf_before old mid _ (was.reads.reads.kept early) short) _
    c.wrong_after.ensures)

pub returns-clause-ok : goal.returns-clause-ok
returns-clause-ok g c L stands =
    let was = c.loop-more.invariant in
    let old = state_of g.S.Store c.args.store.now in
    let mid = state_of g.S.Store c.loop-more.store in
    let seen = state_of g.S.Store c.is_whole.new.self in
    let new = state_of g.S.Store c.advance-2.new.store in
    let commands = c.count-commands.result in
    let counted : commands ≡ length L.history = c.count-commands.ensures L stands in
    let b = c.loop-more.reading in
    let before : HasCleanDisk seen → HasCleanDisk mid = λ clean. omega
    (arith, c.is_whole.ensures.reads.reads.survives.clean, clean) in
    let during : HasCleanDisk new → HasCleanDisk seen = λ clean. omega
    (arith, c.advance-2.ensures.reads.reads.survives.clean, clean) in
    let read : IsReadTo commands (HasCleanDisk new) old was.read.0 b = read_later commands (HasCleanDisk mid)
    (HasCleanDisk new) old was.read.0 b (λ clean. before (during clean)) was.read.1 in
    record {
      rows = read.entries;
      notes = was.read.0;
      read = subst (λ k. AreRead (first_reading k) read.entries was.read.0 b) counted read.read;
      all = all_read commands (HasCleanDisk new) old was.read.0 b read
          (λ clean. shelf_before old mid _ (was.reads.reads.kept (before (during clean)))
          (subst (λ w. ReadsShelf mid (λ rows. w ≡ (b.entries == length rows))) c.if-not-whole.false
          (c.in_ok-whole.ensures.counted (during clean))));
      guard = λ clean own.
          let here = c.is_whole.ensures.reads.stands L (was.reads.stands L stands) in
          let guard = was.read.2 L stands (before (during clean)) own in
          subst (λ H. IsGuard H was.read.0 c.advance-2.new.guard)
          (all_until L.history commands (omega (arith, counted)))
          (c.in_ok-advance.ensures.guard L here clean own was.within (omega (arith, counted)) was.read.0 guard);
    }
