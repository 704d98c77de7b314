-- The message in a row, and when the row continues a history.
use Rattle.std.specs.Prelude.{◌≡◌, ◌∷◌, List, pos, length}
use Rattle.sqlite.specs.declared.types.Value.TheVariants.{Int, Text}
use Rattle.sqlite_value.specs.Order.{Row, column}
use Rattle.desk_types.specs.declared.command.Entry.{Entry}
use Rattle.desk_types.specs.declared.command.Stamped.{Stamped}
use Rattle.desk_types.specs.declared.rules.Rules.{Rules}
use Rattle.desk_types.specs.History.{History}
use Rattle.desk_types.specs.Judged.{IsNext}
use Rattle.desk_types.specs.StoredText.{stored_text}
use Rattle.desk_types.specs.declared.edit.RowEdit.{RowEdit}
use Rattle.desk_types.specs.Tables.{tables_of as state_of}
use Rattle.desk_types.specs.Edits.{with_edits, AreNew}
use Rattle.line_replay.specs.Rows.{entry_row}

-- The row has seven columns, and stores this message.
pub record IsMessageOf (row : Row) (s : Stamped) : Type 0 where
  pub seven : length row ≡ 7
  pub uid : column row 1 ≡ Text s.uid
  pub source : column row 2 ≡ Text s.source
  pub minute : column row 3 ≡ Int (pos s.minute)
  pub command : column row 5 ≡ Text (stored_text s.command)

-- The entry may come after H by the rules, and the row is its row.
pub record GoesOn (rules : Rules) (H : History) (row : Row) (e : Entry) : Type 0 where
  pub next : IsNext rules H e
  pub same : row ≡ entry_row H e

-- The edits turn the state tables of H into those of H with the entry, and insert no existing row.
pub record Lead (edits : List RowEdit) (H : History) (e : Entry) : Type 0 where
  pub lead : with_edits edits (state_of H) ≡ state_of (e ∷ H)
  pub new : AreNew edits (state_of H)
