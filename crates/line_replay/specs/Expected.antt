-- The expected rows of the state tables during a replay.
use Rattle.std.specs.Prelude.{◌≡◌, ◌⊎◌, ◌+◌, ℕ, Bool, true, false, IsTrue, map, Option, Some, None, List, [], length}
use Rattle.std.specs.List.{filter_map}
use Rattle.sqlite.specs.Effect.{Database}
use Rattle.sqlite.specs.State.{State}
use Rattle.desk_types.specs.History.{History}
use Rattle.desk_types.specs.declared.edit.RowEdit.{RowEdit}
use Rattle.desk_types.specs.declared.edit.RowEdit.TheVariants.{PutPlacement}
use Rattle.desk_types.specs.declared.row.PlacementRow.{PlacementRow}
use Rattle.desk_types.specs.Tables.{tables_of as state_of, placement_row}
use Rattle.desk_types.specs.Edits.{with_edits}
use Rattle.state_rows.specs.Kept.{KeptRows, tables_in, but_placements}
use Rattle.line_tables.specs.Line.{IsOurs}
use Rattle.line_tables.specs.Calls.{Reads}
use Rattle.line_replay.specs.declared.auditing.Placed.{Placed}
use Rattle.line_replay.specs.Alone.{Listed}
use Rattle.line_replay.specs.Audit.{Pieces, AreByPiece, ArePlaced, piece_of}
use Rattle.line_replay.specs.Placed.{HasBefore, HasMoreBefore}

-- The rows that the desk keeps, and the placements that were looked up.
pub record Expected : Type 0 where
  pub rows : KeptRows
  pub placed : Placed

abbrev pub kept_with : KeptRows → Placed → Expected
kept_with rows placed = record { rows = rows; placed = placed }

-- The placement that an edit puts, if any.
abbrev pub placement_by : RowEdit → Option PlacementRow
placement_by (PutPlacement row) = Some row
placement_by edit = None

-- The placements among the edits.
abbrev pub placements_by : List RowEdit → List PlacementRow
placements_by edits = filter_map placement_by edits

-- The rows are those of the history's state tables, with the numbers of its commands. Placements aren't compared.
abbrev pub AreKept : KeptRows → History → Type 0
AreKept rows H = but_placements (tables_in rows) (state_of [])
    ≡ but_placements (state_of H) (state_of [])

-- The rows are those of the history's state tables, except that placements are only counted. On a clean disk `placed` says whether each placement is in the database, if that has our schema.
pub record AreExpected (Clean : Type 0) (db : Database) (expected : Expected)
    (H : History) : Type 0 where
  pub rows : AreKept expected.rows H
  pub pieces : Pieces
  pub listed : Listed pieces (λ key. placement_row H key.0 key.1)
  pub named : AreByPiece pieces
  pub counted : length pieces ≡ expected.placed.count
  pub told : Clean → IsOurs db.schema → ArePlaced db expected.placed.all pieces
  pub before : Clean → IsOurs db.schema → HasBefore expected.placed.end expected.placed.count db

-- ---- during the replay

-- It holds for any database, or it was read from the committed contents.
abbrev pub HoldsAsRead : State → (Database → Type 0) → Type 0
HoldsAsRead old Is = ((db : Database) → Is db) ⊎ Reads old Is

-- All earlier ones and these were found, or one of them was not. If the end is known, these come
-- behind the earlier ones.
pub record ArePlacedToo (db : Database) (before : Placed) (after : Bool) (end : Option ℕ)
    (rows : List PlacementRow) : Type 0 where
  pub here : IsTrue after → IsTrue before.all × ArePlaced db true (map piece_of rows)
  pub missing : after ≡ false → (before.all ≡ false) ⊎ ArePlaced db false (map piece_of rows)
  pub more : HasMoreBefore before.end end (length rows) db

-- The placements of the edits were looked up.
pub record LooksUp (Clean : Type 0) (old : State) (edits : List RowEdit)
    (before after : Placed) : Type 0 where
  pub count : after.count ≡ before.count + length (placements_by edits)
  pub told : Clean → HoldsAsRead old
      (λ db. ArePlacedToo db before after.all after.end (placements_by edits))

-- The desk made the edits, and their placements were looked up.
pub record Adds (Clean : Type 0) (old : State) (edits : List RowEdit)
    (before after : Expected) : Type 0 where
  pub rows : tables_in after.rows
      ≡ but_placements (with_edits edits (tables_in before.rows)) (tables_in before.rows)
  pub placed : LooksUp Clean old edits before.placed after.placed
