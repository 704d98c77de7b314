-- The rows of the state tables: their columns, and when a table's rows are those of its map.
use Rattle.std.specs.Prelude.{◌≡◌, ◌&&◌, ℕ, ℤ, pos, negsuc, Bool, IsTrue, Option, Some, None, List, [], ◌∷◌, map, filter, length, if◌then◌else◌, unwrap_or}
use Rattle.std.specs.Option.{option_map, option_map_or, option_to_list}
use Rattle.std.specs.List.{AllByRecursion, join_with_byte, range_with_len}
use Rattle.sqlite.specs.declared.types.Value.TheVariants.{Int, Text}
use Rattle.sqlite_value.specs.declared.value.ValueRef.{ValueRef}
use Rattle.sqlite_value.specs.Value.{owned}
use Rattle.sqlite_value.specs.Order.{Row, column}
use Rattle.sqlite_schema.specs.declared.schema.Table.{Table}
use Rattle.sqlite_schema.specs.Names.{place_of}
use Rattle.sqlite_schema.specs.Rules.{equal}
use Rattle.sqlite.specs.Collation.TheVariants.{Binary}
use Rattle.sqlite.specs.Effect.{Database}
use Rattle.desk_types.specs.declared.sheet.SheetRow.{SheetRow}
use Rattle.desk_types.specs.Id.{Name}
use Rattle.desk_types.specs.Level.{text_of}
use Rattle.desk_types.specs.declared.rules.Rules.{Rules}
use Rattle.desk_types.specs.declared.rules.Rules.TheVariants.{One, Two}
use Rattle.desk_types.specs.declared.row.ReelRow.{ReelRow}
use Rattle.desk_types.specs.declared.row.MountRow.{MountRow}
use Rattle.desk_types.specs.declared.row.BoardRow.{BoardRow}
use Rattle.desk_types.specs.declared.row.PlacementRow.{PlacementRow}
use Rattle.desk_types.specs.Tables.{Tables as StateTables}
use Rattle.line_tables.specs.Line as line

-- The borrowed values.
abbrev pub values_of : List ValueRef → Row
values_of values = map owned values

-- ---- the columns of a row, in their order

-- 1 for yes and 0 for no.
abbrev pub flag : Bool → ℤ
flag b = if b then pos 1 else pos 0

-- The minute at which a reel was opened, or -1 while it is in its bag.
abbrev pub since_or_none : Option ℕ → ℤ
since_or_none since = option_map_or pos since (negsuc 0)

abbrev pub part_columns : Name → Row
part_columns part = Text part ∷ []

abbrev pub alternate_columns : Name × Name → Row
alternate_columns pair = Text pair.0 ∷ Text pair.1 ∷ []

abbrev pub sheet_columns : Name × Name × ℕ → SheetRow → Row
sheet_columns at row = Text at.0 ∷ Text at.1 ∷ Int (pos at.2) ∷ Text row.slot ∷ Text row.part
    ∷ Text (join_with_byte 0x20 row.designators) ∷ []

abbrev pub selected_columns : Name → Name → Row
selected_columns machine product = Text machine ∷ Text product ∷ []

abbrev pub reel_columns : ReelRow → Row
reel_columns r =
    Text r.reel ∷ Text r.part ∷ Text r.lot ∷ Text (text_of r.level) ∷ Int (pos r.label)
    ∷ Int (pos r.received) ∷ Int (pos r.placed) ∷ Int (pos r.scrapped) ∷ Int (pos r.remaining)
    ∷ Int (pos r.used) ∷ Int (since_or_none r.open_since) ∷ Int (flag r.baked) ∷ []

abbrev pub mount_columns : MountRow → Row
mount_columns m = Int (pos m.since) ∷ Text m.machine ∷ Text m.slot ∷ Text m.reel ∷ []

-- A board that is not in work has the empty text as its machine.
abbrev pub board_columns : BoardRow → Row
board_columns b = Text b.board ∷ Text b.product ∷ Text (unwrap_or b.machine []) ∷ []

abbrev pub placement_columns : PlacementRow → Row
placement_columns p =
    Int (pos p.number) ∷ Int (pos p.place) ∷ Text p.board ∷ Text p.designator ∷ Text p.machine
    ∷ Text p.slot ∷ Text p.reel ∷ Int (flag p.overdue) ∷ []

abbrev pub found_columns : Name → ℕ → Row
found_columns reel pieces = Text reel ∷ Int (pos pieces) ∷ []

-- ---- the rows of a table

-- The columns of a stored row. It begins with its rowid, and has no value in the place of a column that the rowid
-- holds.
abbrev pub columns : Table → Row → Row
columns table r = map (λ at. column r (place_of table at)) (range_with_len 0 (length table.columns))

-- The rows of one of our tables as stored.
abbrev pub kept_in : Table → Database → List Row
kept_in table db = db.trees (line.tree_in table db.schema)

-- The rows by their columns.
abbrev pub rows_in : Table → Database → List Row
rows_in table db = map (columns table) (kept_in table db)

-- ---- keys

-- The row has this text, or this number, in the column.
abbrev pub has_text : ℕ → Name → Row → Bool
has_text at text row = equal Binary (column row at) (Text text)

abbrev pub has_int : ℕ → ℕ → Row → Bool
has_int at n row = equal Binary (column row at) (Int (pos n))

abbrev pub has_pair : Name × Name → Row → Bool
has_pair pair row = has_text 0 pair.0 row && has_text 1 pair.1 row

abbrev pub has_sheet_place : Name × Name × ℕ → Row → Bool
has_sheet_place at row = has_text 0 at.0 row && (has_text 1 at.1 row && has_int 2 at.2 row)

abbrev pub has_piece : ℕ × ℕ → Row → Bool
has_piece piece row = has_int 0 piece.0 row && has_int 1 piece.1 row

-- The value stored for a key whose row has nothing else.
abbrev pub unit_if : Bool → Option (Unit {0})
unit_if b = if b then Some tt else None

-- The rows are those of the map: for each key the map's row, if any, and each row has a key.
pub record AreRows {K R : Type 0} (has : K → Row → Bool) (columns : K → R → Row) (rows : List Row)
    (f : K → Option R) : Type 0 where
  pub found : (key : K) → filter (has key) rows ≡ option_to_list (option_map (columns key) (f key))
  pub keyed : AllByRecursion (λ row. (key : K) × IsTrue (has key row)) rows

-- Each table of a database has the rows of its map.

abbrev pub HoldsParts : Database → StateTables → Type 0
HoldsParts db t = AreRows (has_text 0) (λ part _. part_columns part) (rows_in line.part db)
    (λ part. unit_if (t.parts part))

abbrev pub HoldsAlternates : Database → StateTables → Type 0
HoldsAlternates db t = AreRows has_pair (λ pair _. alternate_columns pair)
    (rows_in line.alternate db) (λ pair. unit_if (t.alternates pair.0 pair.1))

abbrev pub HoldsSheets : Database → StateTables → Type 0
HoldsSheets db t = AreRows has_sheet_place sheet_columns (rows_in line.sheet_row db)
    (λ at. t.sheets at.0 at.1 at.2)

abbrev pub HoldsSelected : Database → StateTables → Type 0
HoldsSelected db t = AreRows (has_text 0) selected_columns (rows_in line.selected db) t.selected

abbrev pub HoldsReels : Database → StateTables → Type 0
HoldsReels db t = AreRows (has_text 0) (λ _ row. reel_columns row) (rows_in line.reel db) t.reels

-- A row of `mount` is found by its reel.
abbrev pub HoldsMounts : Database → StateTables → Type 0
HoldsMounts db t = AreRows (has_text 3)
    (λ _ row. mount_columns row) (rows_in line.mount db) t.mounts

abbrev pub HoldsBoards : Database → StateTables → Type 0
HoldsBoards db t = AreRows (has_text 0)
    (λ _ row. board_columns row) (rows_in line.board db) t.boards

abbrev pub HoldsPlacements : Database → StateTables → Type 0
HoldsPlacements db t = AreRows has_piece (λ _ row. placement_columns row)
    (rows_in line.placement db) (λ piece. t.placements piece.0 piece.1)

abbrev pub HoldsFound : Database → StateTables → Type 0
HoldsFound db t = AreRows (has_text 0) found_columns (rows_in line.found db) t.found

-- Under rules One nothing was found, and the table does not exist.
abbrev pub HoldsFoundBy : Rules → Database → StateTables → Type 0
HoldsFoundBy One db t = (reel : Name) → t.found reel ≡ None
HoldsFoundBy Two db t = HoldsFound db t

-- The tables of the database are these, each by its key. Under rules Two there are nine.
pub record HoldsStateBy (rules : Rules) (db : Database) (t : StateTables) : Type 0 where
  pub parts : HoldsParts db t
  pub alternates : HoldsAlternates db t
  pub sheets : HoldsSheets db t
  pub selected : HoldsSelected db t
  pub reels : HoldsReels db t
  pub mounts : HoldsMounts db t
  pub boards : HoldsBoards db t
  pub placements : HoldsPlacements db t
  pub found : HoldsFoundBy rules db t

abbrev pub HoldsState : Database → StateTables → Type 0
HoldsState = HoldsStateBy Two
