use Rattle.book_store.proofs.Loading.{lists_read}
use Rattle.book_store.proofs.store.BookStore.entries.Goals as goal

pub returns-clause-window : goal.returns-clause-window
returns-clause-window g c L was clean own = c.entries_after.ensures.window L.kept L.rows was.both own clean

pub returns-clause-stands : goal.returns-clause-stands
returns-clause-stands g c = lists_read g.S.Store g.D.Desk.Stands c.args.self.now c.entries_after.new.self
    c.entries_after.ensures.reads

pub returns-clause-survives : goal.returns-clause-survives
returns-clause-survives g c = c.entries_after.ensures.reads.reads.survives

pub returns-clause-serves : goal.returns-clause-serves
returns-clause-serves g c = (
  c.requires.serves.0,
  c.entries_after.ensures.reads.stands c.requires.serves.0
      c.requires.serves.1,
)
