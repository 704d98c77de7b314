-- The meaning of the texts that create the tables.
use Rattle.desk_types.proofs.Common.{[], ◌∷◌, ◌≡◌, List, Ok, pos, refl, ℕ}
use Rattle.line_tables.proofs.Common.{accepted, alone, alternate, board, col, command_of, everything, Indexed}
use Rattle.line_tables.proofs.Common.{Insert, Int, IsPlain, Layout, lit, mount, Null, One, part, placement}
use Rattle.line_tables.proofs.Common.{Plain, reel, Schema, schema_of, selected, sheet_row, statement_of, Term}
use Rattle.line_tables.proofs.Common.{Two, understood, Update, Values, version}
use Rattle.line_tables.proofs.FindTexts.{rows_from}
use Rattle.line_tables.specs.Line.{first_of_line, found_by, line_schema}
use Rattle.line_tables.specs.declared.making.TheConstants.{CREATE_ACCEPTED, CREATE_ALTERNATE, CREATE_BOARD}
use Rattle.line_tables.specs.declared.making.TheConstants.{CREATE_FOUND, CREATE_MOUNT, CREATE_PART}
use Rattle.line_tables.specs.declared.making.TheConstants.{CREATE_PLACEMENT, CREATE_REEL, CREATE_SELECTED}
use Rattle.line_tables.specs.declared.making.TheConstants.{CREATE_SHEET_ROW, CREATE_VERSION, INSERT_VERSION}
use Rattle.line_tables.specs.declared.migrating.TheConstants.{UPDATE_VERSION}
use Rattle.sqlite.specs.Command.TheVariants.{CreateTable}
use Rattle.sqlite.specs.Compile.{table_defined_by}
use Rattle.sqlite.specs.Table.{Table}

-- In a database of the schema, the text creates this table, except for its tree.
abbrev pub IsCreate : Schema → List ℕ → Table → Type 0
IsCreate schema text table = (command_of (understood schema text) ≡ CreateTable) × (statement_of text (understood schema text) ≡ text) × IsPlain (understood schema text) × (table_defined_by text ≡ Ok (record table { tree = 0 }))

pub version_is : IsCreate (first_of_line 0 0) CREATE_VERSION.now version
unfolding understood everything
version_is = (refl, refl, (refl, refl), refl)

pub accepted_is : IsCreate (first_of_line 1 0) CREATE_ACCEPTED.now accepted
unfolding understood everything
accepted_is = (refl, refl, (refl, refl), refl)

pub part_is : IsCreate (first_of_line 2 1) CREATE_PART.now part
unfolding understood everything
part_is = (refl, refl, (refl, refl), refl)

pub alternate_is : IsCreate (first_of_line 3 2) CREATE_ALTERNATE.now alternate
unfolding understood everything
alternate_is = (refl, refl, (refl, refl), refl)

pub sheet_row_is : IsCreate (first_of_line 4 3) CREATE_SHEET_ROW.now sheet_row
unfolding understood everything
sheet_row_is = (refl, refl, (refl, refl), refl)

pub selected_is : IsCreate (first_of_line 5 4) CREATE_SELECTED.now selected
unfolding understood everything
selected_is = (refl, refl, (refl, refl), refl)

pub reel_is : IsCreate (first_of_line 6 5) CREATE_REEL.now reel
unfolding understood everything
reel_is = (refl, refl, (refl, refl), refl)

pub mount_is : IsCreate (first_of_line 7 6) CREATE_MOUNT.now mount
unfolding understood everything
mount_is = (refl, refl, (refl, refl), refl)

pub board_is : IsCreate (first_of_line 8 7) CREATE_BOARD.now board
unfolding understood everything
board_is = (refl, refl, (refl, refl), refl)

pub placement_is : IsCreate (first_of_line 9 8) CREATE_PLACEMENT.now placement
unfolding understood everything
placement_is = (refl, refl, (refl, refl), refl)

pub found_is : (indexed : Layout) → IsCreate (schema_of One indexed) CREATE_FOUND.now (found_by (alone indexed))
unfolding understood everything
found_is (Indexed others) = (refl, refl, (refl, refl), refl)
found_is (Plain others) = (refl, refl, (refl, refl), refl)

abbrev pub version_terms : List Term
version_terms = lit (Int (pos 1)) ∷ lit Null ∷ lit (Int (pos 2)) ∷ col 0 0 ∷ []

pub insert_version_is : (command_of (understood line_schema INSERT_VERSION.now) ≡ Insert 0 (Values version_terms 4)) × IsPlain (understood line_schema INSERT_VERSION.now)
unfolding understood everything
insert_version_is = (refl, (refl, refl))

-- The old rowid, followed by the row.
abbrev pub version_renewed : List Term
version_renewed = col 1 0 ∷ col 1 0 ∷ lit Null ∷ lit (Int (pos 2)) ∷ col 1 3 ∷ []

pub update_version_is : (indexed : Layout) → (command_of (understood (schema_of Two indexed) UPDATE_VERSION.now) ≡ Update 0 (record { lets = []; body = rows_from 0 [] version_renewed })) × IsPlain (understood (schema_of Two indexed) UPDATE_VERSION.now)
unfolding understood everything
update_version_is indexed = (refl, (refl, refl))
