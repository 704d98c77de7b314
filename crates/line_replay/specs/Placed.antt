-- The look-up of placements.
use Rattle.std.specs.Prelude.{◌≡◌, ◌+◌, ◌&&◌, ⊤, ℕ, pos, Bool, Option, None, Some, List, length, filter}
use Rattle.std.specs.Ordering.{is_ge}
use Rattle.std.specs.List.{AllByRecursion}
use Rattle.sqlite_rules.specs.Lists.{Has}
use Rattle.sqlite.specs.Effect.{Database}
use Rattle.sqlite.specs.declared.types.Value.TheVariants.{Int}
use Rattle.sqlite_value.specs.Order.{Row, value_cmp}
use Rattle.sqlite_trees.specs.Tree.{rowid}
use Rattle.desk_types.specs.declared.row.PlacementRow.{PlacementRow}
use Rattle.line_tables.specs.Line as line
use Rattle.line_tables.specs.StateRows.{has_text, has_piece, kept_in, rows_in, placement_columns}

-- The row has the board, the designator, the number and the place of the placement.
abbrev pub has_placement : PlacementRow → Row → Bool
has_placement p row = has_text 2 p.board row
    && (has_text 3 p.designator row && has_piece (p.number, p.place) row)

-- Each row is in the table.
abbrev pub AreHere : Database → List PlacementRow → Type 0
AreHere db rows = AllByRecursion (λ p. Has (rows_in line.placement db) (placement_columns p)) rows

-- ---- by rowid

-- The rowid is this number or a later one.
abbrev pub is_from : ℕ → Row → Bool
is_from first row = is_ge (value_cmp (rowid row) (Int (pos first)))

-- The number of rows with this rowid or a later one.
abbrev pub count_from : ℕ → Database → ℕ
count_from first db = length (filter (is_from first) (kept_in line.placement db))

-- If an end is known, so many rows come before it, from rowid 0 on.
abbrev pub HasBefore : Option ℕ → ℕ → Database → Type 0
HasBefore None count db = ⊤
HasBefore (Some end) count db = count_from 0 db ≡ count + count_from end db

-- So many more rows come before the new end, if it is known, than before the old one.
abbrev pub HasMoreBefore : Option ℕ → Option ℕ → ℕ → Database → Type 0
HasMoreBefore from end more db = (count : ℕ) → HasBefore from count db
    → HasBefore end (count + more) db

-- The rows with rowids from the first one up to the end are these, and each is in the table.
pub record IsRange (db : Database) (first end : ℕ) (rows : List PlacementRow) : Type 0 where
  pub here : AreHere db rows
  pub counted : count_from first db ≡ length rows + count_from end db
