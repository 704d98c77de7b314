-- The verdict of an audit of the state tables.
use Rattle.std.specs.Prelude.{◌≡◌, ℕ, Bool, false, IsTrue, Option, Some, None, List, [], ◌∷◌, ◌++◌, length}
use Rattle.std.specs.List.{AllByRecursion}
use Rattle.sqlite_rules.specs.Lists.{Has}
use Rattle.sqlite.specs.Effect.{Database}
use Rattle.sqlite.specs.State.{State}
use Rattle.desk_types.specs.declared.rules.Rules.{Rules}
use Rattle.desk_types.specs.declared.rules.Rules.TheVariants.{One, Two}
use Rattle.desk_types.specs.declared.row.PlacementRow.{PlacementRow}
use Rattle.desk_types.specs.Tables.{Tables as StateTables}
use Rattle.line_tables.specs.Line as line
use Rattle.line_tables.specs.Line.{IsOurs}
use Rattle.line_tables.specs.StateRows.{AreRows, rows_in, has_piece, placement_columns, HoldsParts, HoldsAlternates, HoldsSheets, HoldsSelected, HoldsReels, HoldsMounts, HoldsBoards, HoldsPlacements, HoldsFound}
use Rattle.line_replay.specs.declared.table.StateTable.{StateTable}
use Rattle.line_replay.specs.declared.table.StateTable.TheVariants.{Part, Alternate, SheetRow, Selected, Reel, Mount, Board, Placement, Found}
use Rattle.line_replay.specs.declared.auditing.Placed.{Placed}
use Rattle.line_replay.specs.Alone.{Listed, AreAlone}
use Rattle.line_replay.specs.Placed.{HasBefore}

-- Only rules Two have the table of found pieces.
abbrev pub found_table : Rules → List StateTable
found_table One = []
found_table Two = Found ∷ []

-- The tables of the rules, in the order of an audit.
abbrev pub state_tables : Rules → List StateTable
state_tables rules = Part ∷ Alternate ∷ SheetRow ∷ Selected ∷ Reel ∷ Mount ∷ Board
    ∷ Placement ∷ found_table rules

-- The rows of one table are those of its map.
abbrev pub HoldsTable : Database → StateTables → StateTable → Type 0
HoldsTable db t Part = HoldsParts db t
HoldsTable db t Alternate = HoldsAlternates db t
HoldsTable db t SheetRow = HoldsSheets db t
HoldsTable db t Selected = HoldsSelected db t
HoldsTable db t Reel = HoldsReels db t
HoldsTable db t Mount = HoldsMounts db t
HoldsTable db t Board = HoldsBoards db t
HoldsTable db t Placement = HoldsPlacements db t
HoldsTable db t Found = HoldsFound db t

-- Among the audited tables, this is the first whose rows differ from those of its map.
pub record IsFirstWrong (tables : List StateTable) (db : Database) (t : StateTables)
    (table : StateTable) : Type 0 where
  pub before : List StateTable
  pub after : List StateTable
  pub place : tables ≡ before ++ table ∷ after
  pub right : AllByRecursion (HoldsTable db t) before
  pub wrong : HoldsTable db t table → ⊥

-- The audited tables have the rows of their maps, or this table is the first that has other rows.
abbrev pub IsVerdict : List StateTable → Database → StateTables → Option StateTable → Type 0
IsVerdict tables db t None = AllByRecursion (HoldsTable db t) tables
IsVerdict tables db t (Some table) = IsFirstWrong tables db t table

-- Placements, each with its number and its place.
abbrev pub Pieces : Type 0
Pieces = List ((ℕ × ℕ) × PlacementRow)

-- Each entry has the number and the place of its row.
abbrev pub AreByPiece : Pieces → Type 0
AreByPiece es = AllByRecursion (λ e. e.0 ≡ (e.1.number, e.1.place)) es

-- If all were found, each row is in the table. Otherwise some row is not the one of its number and place.
pub record ArePlaced (db : Database) (all : Bool) (es : Pieces) : Type 0 where
  pub here : IsTrue all → AllByRecursion
      (λ e. Has (rows_in line.placement db) (placement_columns e.1)) es
  pub missing : all ≡ false
      → AreAlone has_piece (λ _ row. placement_columns row) (rows_in line.placement db) es → ⊥

-- The tables with these placements.
abbrev pub with_placements : (ℕ × ℕ → Option PlacementRow) → StateTables → StateTables
with_placements f t = record t { placements = λ number place. f (number, place) }

-- The rows of `placement` are those of the map.
abbrev pub HasPlacements : Database → (ℕ × ℕ → Option PlacementRow) → Type 0
HasPlacements db f = AreRows has_piece
    (λ _ row. placement_columns row) (rows_in line.placement db) f

-- These are the expected placements, with their number and their map. If all were found, the committed contents have
-- them, before the end if that is known.
pub record IsExpected (old : State) (looked : Placed) (es : Pieces)
    (f : ℕ × ℕ → Option PlacementRow) : Type 0 where
  pub listed : Listed es f
  pub pieces : AreByPiece es
  pub counted : length es ≡ looked.count
  pub placed : IsTrue old.is_open → IsOurs old.committed.schema
      → ArePlaced old.committed looked.all es
  pub before : IsTrue old.is_open → IsOurs old.committed.schema
      → HasBefore looked.end looked.count old.committed

-- An entry for a row, by its number and its place.
abbrev pub piece_of : PlacementRow → (ℕ × ℕ) × PlacementRow
piece_of p = ((p.number, p.place), p)
