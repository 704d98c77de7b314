-- The place of the book in a schema.
use Rattle.desk_types.proofs.Common.{◌∙◌, ◌≡◌, ap, false, Ok, refl, sym, true}
use Rattle.line_book_store.specs.Book.{book_schema, IndexedShelf, IsAlone, PlainShelf, Shelf}
use Rattle.line_book_store.specs.Names.{has_book}
use Rattle.line_tables.proofs.Common.{alone, Database, Indexed, Layout, Plain, same_name, Schema, schema_of, Two}

pub shelf_has : (shelf : Shelf) → has_book (book_schema shelf).tables ≡ Ok true
unfolding same_name
shelf_has (IndexedShelf more) = refl
shelf_has (PlainShelf more) = refl

pub alone_has : (layout : Layout) → has_book (schema_of Two (alone layout)).tables ≡ Ok false
alone_has (Indexed others) = refl
alone_has (Plain others) = refl

pub has_none : (db : Database) → has_book db.schema.tables ≡ Ok true → IsAlone db → ⊥
has_none db is alone = let two = sym is ∙ ap (λ (s : Schema). has_book s.tables) alone.1 ∙ alone_has alone.0 in
    let it : true ≡ false = cc in cc
