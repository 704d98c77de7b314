-- The history that a database holds.
use Rattle.std.specs.Prelude.{◌≡◌, pos, All, [], ◌∷◌, filter}
use Rattle.sqlite.specs.declared.types.Value.TheVariants.{Int, Text}
use Rattle.sqlite_value.specs.Order.{Row, column}
use Rattle.sqlite.specs.Effect.{Database}
use Rattle.sqlite.specs.State.{State}
use Rattle.desk_types.specs.declared.command.Entry.{Entry}
use Rattle.desk_types.specs.declared.placement.Placement.{Placement}
use Rattle.desk_types.specs.declared.row.PlacementRow.{PlacementRow}
use Rattle.desk_types.specs.declared.rules.Rules.TheVariants.{Two}
use Rattle.desk_types.specs.Id.{IsId, Name}
use Rattle.desk_types.specs.Designator.{IsDesignator}
use Rattle.desk_types.specs.Number.{IsMinute}
use Rattle.desk_types.specs.History.{History}
use Rattle.desk_types.specs.Judged.{IsJudged}
use Rattle.desk_types.specs.Tables.{tables_of}
use Rattle.line_tables.specs.Rows.{accepted_in}
use Rattle.line_tables.specs.Calls.{Reads, has_number}
use Rattle.line_tables.specs.StateRows.{HoldsState, flag}

-- Exactly one row of `accepted` has the entry's number, and it has the entry's effective minute.
pub record TellsMinute (db : Database) (e : Entry) : Type 0 where
  pub row : Row
  pub only : filter (has_number e.number) (accepted_in db) ≡ row ∷ []
  pub minute : column row 4 ≡ Int (pos e.effective)

-- The history is judged, the state tables are its tables, and `accepted` has the minutes of its entries.
pub record HoldsList (db : Database) (H : History) : Type 0 where
  pub judged : IsJudged Two H
  pub minutes : All (TellsMinute db) H
  pub state : HoldsState db (tables_of H)

-- The connection was open, and the result holds for the history whose tables are committed.
abbrev pub FindsOfList : {X : Type 0} → (History → X) → State → X → Type 0
FindsOfList of old found = Reads old (λ db. (H : History) → HoldsList db H → found ≡ of H)

-- The columns that a query shows of a placed piece.
abbrev pub placed_columns : Placement → Row
placed_columns p =
    Int (pos p.number) ∷ Int (pos p.place) ∷ Text p.board ∷ Text p.designator ∷ Text p.part
    ∷ Text p.lot ∷ Text p.reel ∷ Text p.machine ∷ Text p.slot ∷ Int (pos p.effective)
    ∷ Int (flag p.overdue) ∷ []

-- The names, the designator and the minute are in the columns of a placed piece.
pub record IsPiece (p : Placement) : Type 0 where
  pub board : IsId p.board
  pub designator : IsDesignator p.designator
  pub part : IsId p.part
  pub lot : IsId p.lot
  pub reel : IsId p.reel
  pub machine : IsId p.machine
  pub slot : IsId p.slot
  pub effective : IsMinute p.effective

-- The same for a piece's row.
pub record IsPieceRow (p : PlacementRow) : Type 0 where
  pub board : IsId p.board
  pub designator : IsDesignator p.designator
  pub machine : IsId p.machine
  pub slot : IsId p.slot
  pub reel : IsId p.reel

-- A name that a query shows.
abbrev pub name_row : Name → Row
name_row name = Text name ∷ []
