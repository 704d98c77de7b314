-- One change of one row, and the changes that one command makes.
use Rattle.std.specs.Prelude.{List, ◌∷◌, map}
use Rattle.desk_types.specs.declared.edit.RowEdit.{RowEdit}
use Rattle.line_tables.specs.declared.edit.Accepted.{Accepted}

-- A new row of `accepted`, or an edit of a state table.
pub data Edit : Type 0 where
  PutAccepted : Accepted → Edit
  EditRow : RowEdit → Edit

-- The edits of state tables, as edits of all tables.
abbrev pub row_edits : List RowEdit → List Edit
row_edits edits = map EditRow edits

-- The row of an accepted command, followed by the edits of the state tables.
abbrev pub command_edits : Accepted → List RowEdit → List Edit
command_edits row edits = PutAccepted row ∷ row_edits edits
