use Rattle.line_schema.specs.Book.{disowned}
use Rattle.book_store.proofs.store.BookStore.open.Goals as goal

pub returns-in-Ok-clause-opened : goal.returns-in-Ok-clause-opened
returns-in-Ok-clause-opened g c L stands = record {
  named = c.in-Ok.ensures.named L stands;
  lists = λ place clean own.
      let found = c.in-Ok.ensures.lists L stands place clean own in
      let both = found.0 in
      (both.rows, both.notes, record { both = both.both; read = both.read; guard = both.guard }, found.1);
}

pub returns-in-Ok-clause-serves : goal.returns-in-Ok-clause-serves
returns-in-Ok-clause-serves g c L stands = (disowned L, c.find_book.ensures.kept L stands)

pub returns-in-Ok-clause-crash : goal.returns-in-Ok-clause-crash
returns-in-Ok-clause-crash g c L stands place is_open =
    let it = c.in-Ok.ensures.crash L stands place is_open in record { survives = it.survives; made = it.made }

pub returns-in-Err-clause-crash : goal.returns-in-Err-clause-crash
returns-in-Err-clause-crash g c L stands place is_open =
    let it = c.in-Err.ensures.crash L stands place is_open in record { survives = it.survives; made = it.made }
