-- Rows that a query shows of one table.
use Rattle.std.specs.Prelude.{List}
use Rattle.std.specs.List.{AllByRecursion}
use Rattle.sqlite_value.specs.Order.{Row}
use Rattle.sqlite_schema.specs.declared.schema.Table.{Table}
use Rattle.sqlite_rules.specs.Lists.{Has}
use Rattle.sqlite.specs.Effect.{Database}
use Rattle.line_tables.specs.StateRows.{rows_in}

-- Each of these rows is in the table.
abbrev pub AreOf : Table → List Row → Database → Type 0
AreOf table rows db = AllByRecursion (Has (rows_in table db)) rows
