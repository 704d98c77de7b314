-- The entries of the rows of a book, and where rows stop being a book.
use Rattle.std.specs.Prelude.{◌≡◌, ◌<◌, ◌^◌, ◌⊎◌, ℕ, ◌+◌, ⊤, nat_lt, Option, Some, None, List, [], ◌∷◌, length, filter, Ok, if◌then◌else◌}
use Rattle.sqlite_value.specs.Order.{Row}
use Rattle.sqlite.specs.State.{State}
use Rattle.line_tables.specs.Calls.{has_number}
use Rattle.line_book.specs.declared.kind.Names.{Names}
use Rattle.line_book.specs.declared.note.Note.{Note}
use Rattle.line_book.specs.declared.reading.Reading.{Reading}
use Rattle.line_book.specs.declared.row.BookRow.{BookRow}
use Rattle.line_book.specs.Restored.{IsBook}
use Rattle.line_book.specs.Rows.{HasNames, entry_in, first_reading, read_on}
use Rattle.line_book_store.specs.Book.{entry_columns}
use Rattle.line_book_store.specs.Reading.{HasNumbers, OnShelf, ReadsAll, ReadsShelf}
use Rattle.line_book_store.specs.declared.fault.BookFault.{BookFault}
use Rattle.line_book_store.specs.declared.fault.BookFault.TheVariants.{WrongEntry, Unavailable}

-- After these rows, this row is read as this entry.
abbrev pub IsRead : Reading → BookRow → Note → Type 0
IsRead before row n =
    (named : Option Names) × HasNames row named × (entry_in before row named ≡ Ok n)

-- The rows are read in turn as these entries.
abbrev pub AreRead : Reading → List BookRow → List Note → Reading → Type 0
AreRead before [] [] after = after ≡ before
AreRead before (row ∷ rows) (n ∷ notes) after =
    IsRead before row n × AreRead (read_on before n) rows notes after
AreRead before _ _ after = ⊥

-- Exactly one of the rows has the next number, and it is this one's.
abbrev pub IsAt : List Row → ℕ → BookRow → Type 0
IsAt rows before e = filter (has_number (before + 1)) rows ≡ entry_columns e ∷ []

abbrev pub AreAt : List Row → ℕ → List BookRow → Type 0
AreAt rows before [] = ⊤
AreAt rows before (e ∷ entries) = IsAt rows before e × AreAt rows (before + 1) entries

-- The rows with the first numbers are read as these entries of a line with so many commands. The next
-- one is read after this.
pub record BeginAs (commands : ℕ) (rows : List Row) (notes : List Note) (reading : Reading)
    : Type 0 where
  pub entries : List BookRow
  pub there : AreAt rows 0 entries
  pub read : AreRead (first_reading commands) entries notes reading

-- No entry with the next number has its row, and follows.
abbrev pub NoneFollows : List Row → Reading → Type 0
NoneFollows rows before = (e : BookRow) (n : Note) → HasNumbers e → IsAt rows before.entries e
    → IsRead before e n → ⊥

-- The rows with numbers below n begin as a book, there are more rows, and no entry n follows.
pub record StopsAt (commands : ℕ) (rows : List Row) (n : ℕ) : Type 0 where
  pub notes : List Note
  pub reading : Reading
  pub begin : BeginAs commands rows notes reading
  pub place : length notes + 1 ≡ n
  pub more : length notes < length rows
  pub stops : NoneFollows rows reading

-- The meaning of a fault for the committed book.
abbrev pub IsFaultOf : ℕ → State → BookFault → Type 0
IsFaultOf commands old (WrongEntry n) = ReadsShelf old (λ rows. StopsAt commands rows n)
IsFaultOf commands old _ = ⊤

-- The notes are a book of so many accepted commands. On a clean disk, if the book is behind the desk's
-- tables, it has their rows and no others.
pub record IsChecked (commands : ℕ) (Clean : Type 0) (old : State) (count : ℕ) : Type 0 where
  pub notes : List Note
  pub entries : List BookRow
  pub reading : Reading
  pub read : AreRead (first_reading commands) entries notes reading
  pub book : IsBook commands notes
  pub counted : length notes ≡ count
  pub holds : Clean → ReadsAll old entries

-- ---- in turn

-- So many of the committed rows were read.
pub record IsReadTo (commands : ℕ) (Clean : Type 0) (old : State) (notes : List Note)
    (reading : Reading) : Type 0 where
  pub entries : List BookRow
  pub read : AreRead (first_reading commands) entries notes reading
  pub there : Clean → OnShelf old.committed (λ rows. AreAt rows 0 entries)

-- The fault of the number that follows.
abbrev pub fault_after : ℕ → BookFault
fault_after entries =
    if nat_lt (entries + 1) (2 ^ 32) then WrongEntry (entries + 1) else Unavailable

-- The row is read as this entry.
abbrev pub IsReadFrom : Row → Reading → Reading → Note → Type 0
IsReadFrom row before after n =
    (e : BookRow) × (row ≡ entry_columns e) × IsRead before e n × (after ≡ read_on before n)

-- The row is that of no entry that follows.
abbrev pub Stops : Row → Reading → BookFault → Type 0
Stops row before f = (f ≡ Unavailable) ⊎ ((f ≡ WrongEntry (before.entries + 1))
    × ((e : BookRow) (n : Note) → HasNumbers e → row ≡ entry_columns e → IsRead before e n → ⊥))

-- The next row was read, or there is none with its number.
abbrev pub Goes : Type 0 → State → Reading → Reading → Option Note → Type 0
Goes Clean old before after None = (after ≡ before)
    × (Clean → ReadsShelf old (λ rows. filter (has_number (before.entries + 1)) rows ≡ []))
Goes Clean old before after (Some n) = (e : BookRow) × IsRead before e n
    × (after ≡ read_on before n) × (Clean → ReadsShelf old (λ rows. IsAt rows before.entries e))

-- Exactly one row has the next number, and it is that of no entry that follows.
pub record IsStuck (rows : List Row) (before : Reading) : Type 0 where
  pub row : Row
  pub there : filter (has_number (before.entries + 1)) rows ≡ row ∷ []
  pub stuck : NoneFollows rows before

abbrev pub IsStop : State → Reading → BookFault → Type 0
IsStop old before f = (f ≡ Unavailable) ⊎ ((f ≡ WrongEntry (before.entries + 1))
    × ReadsShelf old (λ rows. IsStuck rows before))
