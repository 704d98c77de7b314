-- The meaning of the texts of the book.
use Rattle.desk_types.proofs.Common.{[], ◌∷◌, ◌≡◌, List, Ok, refl, ℕ}
use Rattle.line_tables.proofs.Common.{alone, col, command_of, everything, Indexed, Insert, IsPlain, Layout, lit}
use Rattle.line_tables.proofs.Common.{Null, Plain, Schema, schema_of, statement_of, Term, Two, understood, Values}
use Rattle.line_tables.proofs.CreateTexts.{IsCreate}
use Rattle.line_tables.specs.Line.{first_behind}
use Rattle.line_book_store.specs.Book.{book_at, book_schema, IndexedShelf, PlainShelf, Shelf}
use Rattle.line_book_store.specs.declared.making.TheConstants.{CREATE_BOOK}
use Rattle.line_book_store.specs.declared.noting.TheConstants.{INSERT_BOOK}

abbrev pub book_terms : List Term
book_terms = col 0 0 ∷ lit Null ∷ col 0 1 ∷ col 0 2 ∷ col 0 3 ∷ col 0 4 ∷ col 0 5 ∷ col 0 6 ∷ col 0 7 ∷ col 0 8 ∷ col 0 9 ∷ col 0 10 ∷ col 0 11 ∷ []

pub insert_book_is : (shelf : Shelf) → (command_of (understood (book_schema shelf) INSERT_BOOK.now) ≡ Insert 11 (Values book_terms 13)) × IsPlain (understood (book_schema shelf) INSERT_BOOK.now)
unfolding understood everything
insert_book_is (IndexedShelf more) = (refl, (refl, refl))
insert_book_is (PlainShelf more) = (refl, (refl, refl))

pub create_book_is : (layout : Layout) → IsCreate (schema_of Two (alone layout)) CREATE_BOOK.now (book_at (first_behind layout))
unfolding understood everything
create_book_is (Indexed others) = (refl, refl, (refl, refl), refl)
create_book_is (Plain others) = (refl, refl, (refl, refl), refl)
