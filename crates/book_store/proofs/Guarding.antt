-- A guard that is made again from the file.
use Rattle.desk_types.proofs.Common.{◌≡◌, arith, Basis, IsTrue, length, Some, subst}
use Rattle.line_book.specs.declared.guard.Guard.{Guard}
use Rattle.line_book.specs.{Guard.IsGuard, Rows.first_reading}
use Rattle.line_book_store.proofs.{Found.one_book, ReadEntries.same_notes}
use Rattle.line_book_store.specs.Book.{HoldsBook}
use Rattle.line_schema.specs.{Frames.ReadsStore, Stands.Kept, Stands.Stands, Stands.state_of}
use Rattle.line_schema.specs.declared.store.LineStore.{LineStore}
use Rattle.line_tables.proofs.Common.{Ghosts, HasCleanDisk}
use Rattle.book_store.proofs.Loading.{lists_read}
use Rattle.book_store.specs.Lists.{ForLists, StandsFor}
use Rattle.book_store.specs.Restored.{GuardsFile}
use Rattle.book_store.specs.declared.store.BookStore.{BookStore}

-- It is the guard of both lists, since a file has one book.
pub lists_guarded : {S D : Type 0} (g : Ghosts S) (F : D → Basis → Type 0) (old : BookStore S D)
    (new : LineStore S D) (guard : Guard) → ReadsStore g F old.store new
    → ((L : Kept) → Stands g F old.store L
    → GuardsFile L (HasCleanDisk (state_of g new)) (state_of g old.store) guard)
    → ForLists g F old (record old { store = new; guard = Some guard })
    (StandsFor g F (record old { store = new; guard = Some guard }))
lists_guarded g F old new guard reads guards L was clean own =
    let kept = lists_read g F old new reads L was clean own in
    let is = (guards L.kept was.both.stands).1 in
    let db = (state_of g old.store).committed in
    let before : HasCleanDisk (state_of g old.store) = omega (arith, reads.reads.survives.clean, clean) in
    let all = is.all clean in
    let mine : HoldsBook db L.rows = was.both.book before own all.was_open in
    let theirs : HoldsBook db is.rows = all.holds mine.shelf mine.schema in
    let notes : is.notes ≡ L.notes = same_notes (first_reading (length L.kept.history)) _ _ is.rows L.rows is.notes
    L.notes (one_book db is.rows L.rows theirs mine) is.read was.read in
    record {
      both = kept.both;
      read = kept.read;
      guard = subst (λ B. IsGuard L.kept.history B guard) notes (is.guard clean own);
    }
