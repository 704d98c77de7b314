-- The names that most proofs about tables use: a database, a statement, and the tables of a line.
-- Each means one thing in all files. A name that fewer than three files use is named where it is used.

-- The other libraries below.
pub use Rattle.desk_types.specs.{declared.edit.RowEdit.RowEdit, declared.rules.Rules.Rules}
pub use Rattle.desk_types.specs.{declared.rules.Rules.TheVariants.One, declared.rules.Rules.TheVariants.Two}
pub use Rattle.sqlite.proofs.Callers.{command_of, IsPlain, one_permutation, runs_as, statement_of}
pub use Rattle.sqlite.proofs.StateLemmas.{survives_then}
pub use Rattle.sqlite.specs.{Cast.cast_row, Collation.TheVariants.Binary, Command.TheVariants.Insert}
pub use Rattle.sqlite.specs.{Command.TheVariants.Update, Does.Tally, Effect.Database, Effect.IsDatabase}
pub use Rattle.sqlite.specs.{Files.file_state, Files.HoldsDatabase, Files.over_files, Held.Held, Held.state}
pub use Rattle.sqlite.specs.{Program.overlay, Rowids.TheVariants.Chosen, Schema.Schema}
pub use Rattle.sqlite.specs.{Source.TheVariants.Values, Values.bound, declared.error.Error.Error}
pub use Rattle.sqlite.specs.{declared.types.Value.Value, declared.types.Value.TheVariants.Int}
pub use Rattle.sqlite.specs.{declared.types.Value.TheVariants.Null, declared.types.Value.TheVariants.Text}
pub use Rattle.sqlite.specs.Query.{end, inner, IsAnswer, Output, output, output_cmp, Query}
pub use Rattle.sqlite.specs.State.{HasCleanDisk, IsLive, KeepsCommit, Opens, State, Survives}
pub use Rattle.sqlite.specs.Term.{col, holds, lit, op2, Term}
pub use Rattle.sqlite_keyed.proofs.ListLemmas.{all-append, all_weaker, map-map}
pub use Rattle.sqlite_rules.specs.{Action.works, Calls.ids_of, Lists.Has}
pub use Rattle.sqlite_rules.specs.Edit.{is_taken, put_all, with_rowid, without_all}
pub use Rattle.sqlite_schema.specs.{Rules.equal, declared.schema.Keys.TheVariants.Enforced}
pub use Rattle.sqlite_schema.specs.{declared.schema.Table.Table}
pub use Rattle.sqlite_sql.proofs.QueryLemmas.{output_cmp_total}
pub use Rattle.sqlite_sql.specs.{Ops.is_true, declared.ops.BinaryOp.TheVariants.Compare}
pub use Rattle.sqlite_sql.specs.{declared.ops.CompareOp.TheVariants.Eq, declared.ops.CompareOp.TheVariants.Ge}
pub use Rattle.sqlite_sql.specs.{declared.ops.CompareOp.TheVariants.Lt}
pub use Rattle.sqlite_trees.proofs.{Doubt.no_doubt, ListLemmas.filter_none, ListLemmas.flat_map-map}
pub use Rattle.sqlite_trees.proofs.{ListLemmas.IsPermutation-filter}
pub use Rattle.sqlite_trees.specs.{View.is_int, declared.store.Store.Ghosts}
pub use Rattle.sqlite_trees.specs.Tree.{IsAscending, put_row, rowid, Trees}
pub use Rattle.sqlite_value.proofs.OrderLemmas.{value_cmp-Int, value_cmp-Text, value_cmp_total}
pub use Rattle.sqlite_value.specs.{Keys.ascending, Keys.collated, Order.column, Order.Row, Value.owned}
unfoldable pub use Rattle.sqlite.specs.Listing.{understood}
unfoldable pub use Rattle.sqlite_schema.specs.Names.{same_name}
unfoldable pub use Rattle.sqlite_sql.specs.Ops.{binary}
unfoldable pub use Rattle.sqlite_tied.specs.Compute.{everything}
unfoldable pub use Rattle.sqlite_value.specs.Order.{value_cmp}
-- What `line_tables` defines and proves.
pub use Rattle.line_tables.specs.{Edit.command_edits, Edit.Edit, Edit.row_edits, Frames.ReadsOnly}
pub use Rattle.line_tables.specs.{Line.Layout.Indexed, Line.Layout.Plain, Names.has_state, Placing.ArePlacing}
pub use Rattle.line_tables.specs.{Rising.IsBefore, Rising.IsPast, Rowids.AreApart, Rowids.changed_tables}
pub use Rattle.line_tables.specs.Calls.{Edits, has_number, has_uid, is_before, IsLeast, KeepsOthers}
pub use Rattle.line_tables.specs.Calls.{LeavesEdited, LeavesMigrated, Migrated, only, Reads, row_of, Runs}
pub use Rattle.line_tables.specs.Calls.{Selects, Writes}
pub use Rattle.line_tables.specs.Line.{accepted, alone, alternate, are_quiet, board, found, found_tree}
pub use Rattle.line_tables.specs.Line.{is_ours, IsOurs, Layout, mount, no_schema, others_in, part, placement}
pub use Rattle.line_tables.specs.Line.{reel, schema_of, schema_tables, selected, sheet_row, tree_in, version}
pub use Rattle.line_tables.specs.Rows.{accepted_columns, accepted_in, after_edits, AreNew, blank, Holds}
pub use Rattle.line_tables.specs.Rows.{HoldsAt, HoldsBy, version_columns, version_in}
pub use Rattle.line_tables.specs.StateRows.{AreRows, columns, flag, has_pair, has_piece, has_sheet_place}
pub use Rattle.line_tables.specs.StateRows.{has_text, kept_in, placement_columns, reel_columns, rows_in}
pub use Rattle.line_tables.specs.StateRows.{values_of}
