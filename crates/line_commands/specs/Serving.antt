-- Both lists of a file that is served: how they were opened, served and closed.
use Rattle.std.specs.Prelude.{◌≡◌, ◌≢◌, ◌⊎◌, ℕ, List, Option, None, Some, IsSomeAnd, IsTrue, Result, Ok}
use Rattle.sqlite_disk.specs.declared.Disk as disk
use Rattle.sqlite_disk.specs.declared.Files.{Files}
use Rattle.sqlite_store.specs.declared.store.FileStore.{FileStore}
use Rattle.sqlite_wal.specs.Recovery.{Image}
use Rattle.sqlite.specs.Files.{IsOpened, file_state, over_files}
use Rattle.sqlite.specs.Held.{Held}
use Rattle.sqlite.specs.State.{HasCleanDisk}
use Rattle.desk_types.specs.declared.limits.TheConstants.{MOST_ENTRIES}
use Rattle.desk_types.specs.declared.rules.Rules.TheVariants.{Two}
use Rattle.desk_types.specs.declared.wire.Wire.{Wire}
use Rattle.feeder_state.specs.declared.desk.StateDesk.{StateDesk}
use Rattle.feeder_state.specs.contracts.desk.StateDeskDesk.TheImpl.{ghosts as state}
use Rattle.feeder_state.specs.contracts.desk.StateDeskKeepsRows.TheImpl.{ghosts as rows}
use Rattle.line_tables.specs.Frames.{ReadsOnly}
use Rattle.line_schema.specs.Book.{LeavesBothUnmade, MakesWithBook, new_kept}
use Rattle.line_schema.specs.Frames.{ReadsStore}
use Rattle.line_schema.specs.Opened.{OpensStore}
use Rattle.line_schema.specs.Opening.{IsReported}
use Rattle.line_schema.specs.Stands.{Kept, Stands, conn_of, state_of}
use Rattle.line_schema.specs.declared.fault.OpenFault.{OpenFault}
use Rattle.line_schema.specs.declared.fault.OpenFault.TheVariants as open_fault
use Rattle.line_schema.specs.declared.store.LineStore.{LineStore}
use Rattle.line_book_store.specs.declared.fault.BookFault.{BookFault}
use Rattle.line_book_store.specs.declared.fault.BookFault.TheVariants as book_fault
use Rattle.desk_file.specs.Found.{FindsAs}
use Rattle.desk_file.specs.Unread.{IsUnreadAt}
use Rattle.desk_commands.specs.Closed.{Close, ClosesConn}
use Rattle.desk_commands.specs.Told.{TellsLine, unavailable_line}
use Rattle.http_stream.specs.Stream.{ForStates}
use Rattle.book_store.specs.declared.store.BookStore.{BookStore}
use Rattle.book_store.specs.Lists.{book_state}
use Rattle.book_store.specs.Opened.{HasPlace, IsFault, LeavesOpened, Opens}
use Rattle.line_file.specs.declared.fault.ListFault.{ListFault}
use Rattle.line_file.specs.declared.fault.ListFault.TheVariants.{History as AtHistory, Book as AtBook}
use Rattle.line_http.specs.Line.{Line, Represents}
use Rattle.line_reads.specs.Ends.{fault_line}
use Rattle.line_commands.specs.declared.left.LineLeft.{LineLeft}
use Rattle.line_commands.specs.declared.left.LineLeft.TheVariants.{Nothing, Unread, Refused, Lists}

-- ---- opened

abbrev pub ok_of : {A : Type 0} → A → Result A BookFault
ok_of a = Ok a

-- The desk is that of the history in the tables. Or there was no table, and an empty desk and an empty book were made.
abbrev pub IsDeskOf : {D : Type 0} {g : disk.Ghosts D} → Held (FileStore D g)
    → LineStore (FileStore D g) StateDesk → Kept → Type 0
IsDeskOf conn desk L = OpensStore over_files state.Stands rows.kept_rows conn desk L
    ⊎ (MakesWithBook over_files state.Stands rows.kept_rows conn MOST_ENTRIES desk
    × (L ≡ new_kept MOST_ENTRIES (file_state conn)))

abbrev pub FindsDesk : {D : Type 0} {g : disk.Ghosts D} → Held (FileStore D g)
    → LineStore (FileStore D g) StateDesk → Type 0
FindsDesk conn desk = (L : Kept) × IsDeskOf conn desk L × Stands over_files state.Stands desk L

-- The book that is opened, behind the desk's tables. A crash leaves what it could leave before or, in a file without a
-- book, the history with an empty book.
pub record OpensBook {D : Type 0} {g : disk.Ghosts D} (desk : LineStore (FileStore D g) StateDesk)
    (store : BookStore (FileStore D g) StateDesk) (L : Kept) : Type 0 where
  pub opens : Opens over_files state.Stands desk store L
  pub leaves : HasPlace (state_of over_files desk).committed
      → IsTrue (state_of over_files desk).is_open
      → LeavesOpened L (state_of over_files desk) (book_state over_files store) (ok_of store)

-- Both lists are those of the database.
abbrev pub FindsLists : {D : Type 0} {g : disk.Ghosts D} → Held (FileStore D g)
    → BookStore (FileStore D g) StateDesk → Type 0
FindsLists {D = D} {g = g} conn store = (desk : LineStore (FileStore D g) StateDesk) × (L : Kept)
    × IsDeskOf conn desk L × OpensBook desk store L

-- The connection is to the database in files with these contents, if the disk is honest.
abbrev pub ConnectsTo : {D : Type 0} {g : disk.Ghosts D} → Image → Held (FileStore D g) → Type 0
ConnectsTo image conn =
    HasCleanDisk (file_state conn) → IsOpened conn × FindsAs image (file_state conn)

-- The store of both lists was opened in files with these contents.
abbrev pub IsOpenedIn : {D : Type 0} {g : disk.Ghosts D} → Image
    → BookStore (FileStore D g) StateDesk → Type 0
IsOpenedIn {D = D} {g = g} image store =
    (conn : Held (FileStore D g)) × ConnectsTo image conn × FindsLists conn store

-- ---- refused

-- The history of the database has the fault, and nothing changed. Or there was no desk to open, and none was made.
abbrev pub RefusesDesk : {D : Type 0} {g : disk.Ghosts D} → Held (FileStore D g) → OpenFault
    → Held (FileStore D g) → Type 0
RefusesDesk conn fault last =
    (IsReported Two (file_state conn) (file_state last) fault × ReadsOnly over_files conn last)
    ⊎ LeavesBothUnmade over_files MOST_ENTRIES conn fault last

-- The book behind the desk's tables has the fault. Unless it is Unavailable, nothing changed.
abbrev pub RefusesBook : {D : Type 0} {g : disk.Ghosts D} → Held (FileStore D g) → BookFault
    → Held (FileStore D g) → Type 0
RefusesBook {D = D} {g = g} conn fault last =
    (desk : LineStore (FileStore D g) StateDesk) × (L : Kept) × IsDeskOf conn desk L
    × (end : LineStore (FileStore D g) StateDesk) × (last ≡ conn_of end)
    × IsFault L (state_of over_files desk) (state_of over_files end) fault
    × (fault ≢ book_fault.Unavailable → ReadsStore over_files state.Stands desk end)

-- The list that is named has the fault.
abbrev pub HasListFault : {D : Type 0} {g : disk.Ghosts D} → Held (FileStore D g) → ListFault
    → LineLeft D g → Type 0
HasListFault conn (AtHistory fault) (Refused last) = RefusesDesk conn fault last
HasListFault conn (AtBook fault) (Refused last) = RefusesBook conn fault last
HasListFault conn fault _ = ⊥

-- The file can't be opened, or no database in it. Or one of its lists has the fault.
abbrev pub IsRefusedIn : {D : Type 0} {g : disk.Ghosts D} → Image → ListFault → LineLeft D g
    → Type 0
IsRefusedIn image fault Nothing = fault ≡ AtHistory open_fault.Unavailable
IsRefusedIn {g = g} image fault (Unread files) =
    (fault ≡ AtHistory open_fault.Unavailable) × IsUnreadAt g image files
IsRefusedIn {D = D} {g = g} image fault left =
    (conn : Held (FileStore D g)) × ConnectsTo image conn × HasListFault conn fault left

-- The fault is printed, or Unavailable is.
abbrev pub HasNoLists : {D E : Type 0} {g : disk.Ghosts D} → Image → LineLeft D g
    → (E → Option (List ℕ)) → Wire E → Wire E → Type 0
HasNoLists image left tells errors errors' = (fault : ListFault) × IsRefusedIn image fault left
    × (TellsLine tells errors errors' unavailable_line
    ⊎ TellsLine tells errors errors' (fault_line fault))

-- ---- served

-- Both lists of the file were opened, and this relates them to those of the open store.
abbrev pub ServesLists : {D : Type 0} {g : disk.Ghosts D} → Image → LineLeft D g
    → (Line → Line → Type 0) → Type 0
ServesLists {D = D} {g = g} image (Lists last) Fact =
    (first : BookStore (FileStore D g) StateDesk) × IsOpenedIn image first
    × ForStates (Represents over_files state.Stands)
    (λ store. HasCleanDisk (book_state over_files store)) first last Fact
ServesLists image _ Fact = ⊥

-- ---- closed

abbrev pub ClosesSome : {D : Type 0} {g : disk.Ghosts D} → Close → Held (FileStore D g)
    → Option (Files D) → Type 0
ClosesSome how conn files = IsSomeAnd files (ClosesConn how conn)

-- What was open of the file was closed in this way.
abbrev pub ClosesLists : {D : Type 0} {g : disk.Ghosts D} → Close → LineLeft D g
    → Option (Files D) → Type 0
ClosesLists how Nothing files = files ≡ None
ClosesLists how (Unread unread) files = files ≡ Some unread
ClosesLists how (Refused conn) files = ClosesSome how conn files
ClosesLists how (Lists store) files = ClosesSome how (conn_of store.store) files
