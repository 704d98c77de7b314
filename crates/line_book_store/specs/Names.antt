-- The book by its name, its columns and its place.
use Rattle.std.specs.Prelude.{Bool, true, false, ◌&&◌, ◌==◌, Option, Some, None, List, length, map, slice_get, Result, Ok, Err, if◌then◌else◌}
use Rattle.std.specs.List.{list_all}
use Rattle.sqlite_schema.specs.Names.{same_name}
use Rattle.sqlite_schema.specs.declared.schema.Column.{Column}
use Rattle.sqlite_schema.specs.declared.schema.Table.{Table}
use Rattle.line_tables.specs.Names.{has_column}
use Rattle.line_book_store.specs.Book.{book_at}
use Rattle.line_book_store.specs.declared.fault.BookFault.{BookFault}
use Rattle.line_book_store.specs.declared.fault.BookFault.TheVariants.{OthersFirst, OtherColumns}

-- The table has the book's columns, by their names, and no others.
abbrev pub has_its_columns : Table → Bool
has_its_columns table = length table.columns == length (book_at 0).columns && list_all
    (λ name. has_column table name) (map (λ (column : Column). column.name) (book_at 0).columns)

-- Whether the table is the book, or why a file that has it in the book's place is refused.
abbrev pub is_book : Table → Result Bool BookFault
is_book table = if same_name table.name (book_at 0).name
    then (if has_its_columns table then Ok true else Err OtherColumns)
    else Err OthersFirst

abbrev pub is_book_if_any : Option Table → Result Bool BookFault
is_book_if_any None = Ok false
is_book_if_any (Some table) = is_book table

-- Whether the first table behind the eleven of the desk is the book. There may be none.
abbrev pub has_book : List Table → Result Bool BookFault
has_book tables = is_book_if_any (slice_get tables 11)
