use Rattle.book_store.proofs.Noting.{notes_are}
use Rattle.book_store.proofs.store.BookStore.last_entry.Goals as goal

pub returns : goal.returns
returns g c L was = notes_are _ L.rows L.notes c.args.self.now.reading was.read
