-- The state tables: their names, and their declarations in the schema.
use Rattle.std.specs.Prelude.{List, ℕ, codes}
use Rattle.sqlite_schema.specs.declared.schema.Table.{Table}
use Rattle.line_tables.specs.Line as line
use Rattle.line_replay.specs.declared.table.StateTable.{StateTable}
use Rattle.line_replay.specs.declared.table.StateTable.TheVariants.{Part, Alternate, SheetRow, Selected, Reel, Mount, Board, Placement, Found}

-- The name in SQL.
abbrev pub name_of : StateTable → List ℕ
name_of Part = codes "part"
name_of Alternate = codes "alternate"
name_of SheetRow = codes "sheet_row"
name_of Selected = codes "selected"
name_of Reel = codes "reel"
name_of Mount = codes "mount"
name_of Board = codes "board"
name_of Placement = codes "placement"
name_of Found = codes "found"

-- The table with its columns, its keys and its tree.
abbrev pub table_of : StateTable → Table
table_of Part = line.part
table_of Alternate = line.alternate
table_of SheetRow = line.sheet_row
table_of Selected = line.selected
table_of Reel = line.reel
table_of Mount = line.mount
table_of Board = line.board
table_of Placement = line.placement
table_of Found = line.found
