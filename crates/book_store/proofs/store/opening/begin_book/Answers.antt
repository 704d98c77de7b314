use Rattle.desk_types.proofs.Common.{arith}
use Rattle.line_schema.specs.{Book.disowned, Stands.state_of}
use Rattle.line_tables.proofs.Common.{HasCleanDisk}
use Rattle.sqlite.proofs.StateLemmas.{survives_weaker}
use Rattle.book_store.proofs.{Finding.knows_by, Opening.made_then_read}
use Rattle.book_store.proofs.store.opening.begin_book.Goals as goal

pub returns-in-Ok-restore-clause-lists : goal.returns-in-Ok-restore-clause-lists
returns-in-Ok-restore-clause-lists g c L stands alone =
    let mid = state_of g.S.Store c.add_book.new.self in
    let new = state_of g.S.Store c.restore.new.store in
    let early : HasCleanDisk new → HasCleanDisk mid = λ clean. omega
    (arith, c.restore.ensures.reads.reads.survives.clean, clean) in
    let made = c.in-Ok.ensures.made L stands alone in
    let is = c.in-Ok-restore.ensures.ok L made.ok.stands in
    knows_by g.S.Store g.D.Desk.Stands c.add_book.new.self c.restore.new.store L c.in-Ok-restore.restored
    c.restore.ensures.reads made.ok.stands is
    (λ clean own. let book = made.ok.book (early clean) own (is.all clean).was_open in (book.shelf, book.schema))

pub returns-in-Ok-restore-clause-kept : goal.returns-in-Ok-restore-clause-kept
returns-in-Ok-restore-clause-kept g c L stands = c.restore.ensures.reads.stands (disowned L)
    (c.add_book.ensures.kept L stands)

pub returns-in-Err-clause-kept : goal.returns-in-Err-clause-kept
returns-in-Err-clause-kept g c L stands = c.restore.ensures.reads.stands (disowned L) (c.add_book.ensures.kept L stands)

pub returns-in_default-clause-crash : goal.returns-in_default-clause-crash
returns-in_default-clause-crash g c L stands alone =
    let made = c.add_book.ensures.made L stands alone in record {
      survives = λ own. survives_weaker (state_of g.S.Store c.args.store.now) (state_of g.S.Store c.add_book.new.self)
          _ _ (λ clean trees left. (alone, left)) (made.survives own);
      made = λ clean own _. tt;
    }

pub returns-in-Ok-restore-clause-crash : goal.returns-in-Ok-restore-clause-crash
returns-in-Ok-restore-clause-crash g c L stands alone =
    let made = c.in-Ok.ensures.made L stands alone in
    made_then_read L (state_of g.S.Store c.args.store.now) (state_of g.S.Store c.add_book.new.self) _ _ alone
    made.survives made.alone c.restore.ensures.reads.reads.survives

pub returns-in-Err-clause-crash : goal.returns-in-Err-clause-crash
returns-in-Err-clause-crash g c L stands alone =
    let made = c.in-Ok.ensures.made L stands alone in
    made_then_read L (state_of g.S.Store c.args.store.now) (state_of g.S.Store c.add_book.new.self) _ _ alone
    made.survives (λ clean own. tt) c.restore.ensures.reads.reads.survives
