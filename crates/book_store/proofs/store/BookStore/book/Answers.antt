use Rattle.desk_types.proofs.Common.{◌∙◌, ◌≡◌, ap, map}
use Rattle.line_answers.specs.Book.{book_text, written_row}
use Rattle.line_book.specs.Guard.{IsGuard}
use Rattle.line_book_store.specs.{Book.entry_columns, Reading.window}
use Rattle.book_store.proofs.Loading.{some_there}
use Rattle.book_store.proofs.Showing.{text_read}
use Rattle.book_store.specs.Entries.{before_wanted}
use Rattle.book_store.proofs.store.BookStore.book.Goals as goal

pub returns-clause-text : goal.returns-clause-text
returns-clause-text g c L was clean own =
    let H = L.kept.history in
    let wanted = c.args.wanted in
    let lists = c.entries.ensures.stands L was clean own in
    let guard = some_there c.entries.new.self.guard c.in-Some.guard (IsGuard H L.notes) c.in-Some.is lists.guard in
    let found = c.in_ok-rows.ensures.window L was clean own
    ∙ ap (λ n. map entry_columns (window n c.last_entry-last.result L.rows)) c.before_wanted.ensures
    ∙ ap (λ n. map entry_columns (window (before_wanted wanted) n L.rows)) (c.last_entry-last.ensures L was) in
    let told : c.in_ok-book_text.field-0 ≡ book_text H L.notes wanted (map written_row c.as_slice.result.now) =
    c.in_ok-book_text.ensures H L.notes (c.open_notes.ensures H L.notes guard) (c.undecided.ensures H L.notes guard) in
    told ∙ ap (λ rows. book_text H L.notes wanted (map written_row rows)) c.as_slice.ensures.value
    ∙ text_read L c.args.self.now.reading was.read wanted c.in_ok-rows.rows.items found
