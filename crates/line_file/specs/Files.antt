-- Both lists of files, which are closed again.
use Rattle.std.specs.Prelude.{◌≡◌, ◌⊎◌, ℕ, Bool, List, length, Err, Result, Option, IsSomeAnd}
use Rattle.sqlite_disk.specs.declared.Disk as disk
use Rattle.sqlite_disk.specs.declared.Files.{Files}
use Rattle.sqlite_store.specs.declared.store.FileStore.{FileStore}
use Rattle.sqlite_trees.specs.Tree.{Trees}
use Rattle.sqlite_wal.specs.Reads.{AreClean}
use Rattle.sqlite_wal.specs.Recovery.{Image}
use Rattle.sqlite.specs.Closing.{HoldsAlone}
use Rattle.sqlite.specs.Effect.{Database}
use Rattle.sqlite.specs.Files.{image_of}
use Rattle.sqlite.specs.Held.{Held}
use Rattle.desk_types.specs.declared.rules.Rules.TheVariants.{Two}
use Rattle.desk_types.specs.History.{Basis, History, basis}
use Rattle.line_book.specs.declared.note.Note.{Note}
use Rattle.line_book.specs.declared.reading.Reading.{Reading}
use Rattle.line_book.specs.declared.row.BookRow.{BookRow}
use Rattle.line_book.specs.Book.{Book}
use Rattle.line_book.specs.Guard.{IsGuard}
use Rattle.line_book.specs.Rows.{first_reading}
use Rattle.line_book_store.specs.Book.{Shelf, book_in, book_schema}
use Rattle.line_book_store.specs.Checking.{AreRead, StopsAt}
use Rattle.line_book_store.specs.Names.{has_book}
use Rattle.line_book_store.specs.declared.fault.BookFault.{BookFault}
use Rattle.line_book_store.specs.declared.fault.BookFault.TheVariants.{WrongEntry, Unavailable}
use Rattle.line_replay.specs.Rows.{ledger_tables}
use Rattle.line_schema.specs.declared.fault.OpenFault.TheVariants as open_fault
use Rattle.line_tables.specs.Rows.{Holds}
use Rattle.desk_file.specs.Files.{Copies, IsFoundIn, Leaves, MayRead, ReadsAs}
use Rattle.desk_file.specs.Refused.{IsFaultIn}
use Rattle.desk_file.specs.Unread.{IsUnread}
use Rattle.book_store.specs.Opened.{HasPlace}
use Rattle.line_file.specs.declared.fault.ListFault.{ListFault}
use Rattle.line_file.specs.declared.fault.ListFault.TheVariants.{History as AtHistory, Book as AtBook}
use Rattle.line_file.specs.declared.store.Line.{Line}
use Rattle.line_file.specs.Lists.{AreTold, HoldsRows, IsNamed}

-- ---- both lists

-- Any open of the files finds the desk's tables, and behind them the book first, or no other table.
abbrev pub HasListsFirst : Image → Type 0
HasListsFirst image = (db : Database) → IsFoundIn image db → HasPlace db

-- A database holds the tables of this history, and a book with these rows, which say these entries; or no book, which
-- counts as an empty one.
pub record HoldsLists (db : Database) (greatest : ℕ) (H : History) (rows : List BookRow)
    (B : Book) : Type 0 where
  pub tables : Holds db (ledger_tables greatest H)
  pub book : HoldsRows db rows
  pub read : (last : Reading) × AreRead (first_reading (length H)) rows B last

-- The line is that of the lists that the files held when they were opened.
pub record IsLineIn {D : Type 0} (StandsFor : D → Basis → Type 0) (with_rows : Bool)
    (image : Image) (line : Line D) : Type 0 where
  pub db : Database
  pub found : IsFoundIn image db
  pub greatest : ℕ
  pub history : History
  pub rows : List BookRow
  pub notes : Book
  pub lists : HoldsLists db greatest history rows notes
  pub desk : StandsFor line.desk (basis Two history)
  pub guard : IsGuard history notes line.lists.guard
  pub count : line.commands ≡ length history
  pub entries : line.lists.reading.entries ≡ length rows
  pub told : AreTold with_rows rows line.rows.items

-- Some open of the files finds no other table in the book's place.
abbrev pub IsNamedIn : Image → Type 0
IsNamedIn image = (db : Database) × IsFoundIn image db × IsNamed db

-- If no disk lied until the files were closed, no other table is in the book's place; and the line is that of the lists.
abbrev pub FindsLine : {D F : Type 0} → (D → Basis → Type 0) → Bool → disk.Ghosts F → Image
    → Files F → Line D → Type 0
FindsLine StandsFor with_rows g image f line = AreClean g f.log f.db
    → IsNamedIn image × (HasListsFirst image → IsLineIn StandsFor with_rows image line)

-- This is true of the history, the rows and their entries that files held when they were opened. No other table was in
-- the book's place. Both hold if no disk lied until the files were closed.
abbrev pub AreListsOf : {F : Type 0} → disk.Ghosts F → Image → Option (Files F)
    → (History → List BookRow → Book → Type 0) → Type 0
AreListsOf g image files Fact = IsSomeAnd files (λ f. AreClean g f.log f.db → IsNamedIn image
    × (HasListsFirst image → (db : Database) × IsFoundIn image db × (greatest : ℕ) × (H : History)
    × (rows : List BookRow) × (B : Book) × HoldsLists db greatest H rows B × Fact H rows B))

-- ---- a fault

-- The first number whose entry is missing, can't be read, or can't follow those before it.
pub record IsWrongIn (db : Database) (n : ℕ) : Type 0 where
  pub greatest : ℕ
  pub history : History
  pub tables : Holds db (ledger_tables greatest history)
  pub shelf : Shelf
  pub named : db.schema ≡ book_schema shelf
  pub stops : StopsAt (length history) (book_in shelf db) n

abbrev pub IsBookFaultIn : Database → BookFault → Type 0
IsBookFaultIn db fault = (has_book db.schema.tables ≡ Err fault)
    ⊎ ((n : ℕ) × (fault ≡ WrongEntry n) × IsWrongIn db n)

-- The list that is named has this fault, by the contents of the files.
abbrev pub IsFaultOf : Image → ListFault → Type 0
IsFaultOf image (AtHistory fault) = (fault ≡ open_fault.Unavailable) ⊎ IsFaultIn image Two fault
IsFaultOf image (AtBook fault) = (fault ≡ Unavailable)
    ⊎ ((db : Database) × IsFoundIn image db × IsBookFaultIn db fault)

abbrev pub FindsFault : {F : Type 0} → disk.Ghosts F → Image → Files F → ListFault → Type 0
FindsFault g image f fault = AreClean g f.log f.db → HasListsFirst image → IsFaultOf image fault

-- ---- the files afterwards

-- The files hold these trees, now and after a crash; without a log if they were closed completely.
abbrev pub StillHold : {F : Type 0} → disk.Ghosts F → Files F → Trees → Type 0
StillHold g f trees = ((image : Image) → MayRead g f image → HoldsAlone image trees)
    ⊎ ((image : Image) → MayRead g f image → ∥ ReadsAs trees image ∥₁)

-- The first files became the last, which hold what an open of the first finds. Or no database could be opened in them,
-- and they weren't written over.
abbrev pub IsKept : {F : Type 0} → disk.Ghosts F → Files F → Files F → Type 0
IsKept g first last = (AreClean g last.log last.db
    → (db : Database) × IsFoundIn (image_of g first) db × StillHold g last db.trees)
    ⊎ IsUnread g first last

-- A connection was closed, and the reading is returned; or the close failed.
abbrev pub Closes : {X F : Type 0} {g : disk.Ghosts F} → Result X ListFault
    → Held (FileStore F g) → Result X ListFault → Files F → Type 0
Closes line conn told files = ((told ≡ line) × Copies conn files)
    ⊎ ((told ≡ Err (AtHistory open_fault.Unavailable)) × Leaves conn files)
