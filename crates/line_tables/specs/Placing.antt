-- Edits that put placements, and the values of their rows.
use Rattle.std.specs.Prelude.{◌≡◌, pos, List, ◌∷◌, map}
use Rattle.std.specs.List.{flat_map}
use Rattle.sqlite.specs.declared.types.Value.TheVariants.{Int}
use Rattle.sqlite_value.specs.Order.{Row}
use Rattle.desk_types.specs.declared.edit.RowEdit.TheVariants.{PutPlacement}
use Rattle.desk_types.specs.declared.row.PlacementRow.{PlacementRow}
use Rattle.line_tables.specs.Edit.{Edit}
use Rattle.line_tables.specs.Edit.{EditRow}
use Rattle.line_tables.specs.Rowids.{placement_id}
use Rattle.line_tables.specs.StateRows.{placement_columns}

-- The edit that puts the row.
abbrev pub placement_edit : PlacementRow → Edit
placement_edit row = EditRow (PutPlacement row)

-- The row as stored. Its rowid follows from its number and place.
abbrev pub placement_kept : PlacementRow → Row
placement_kept row = Int (pos (placement_id row.number row.place)) ∷ placement_columns row

-- The edits put placements, and these are the values of their rows, one row after another.
abbrev pub ArePlacing : List Edit → Row → Type 0
ArePlacing edits values = (rows : List PlacementRow) × (edits ≡ map placement_edit rows)
    × (values ≡ flat_map placement_kept rows)
