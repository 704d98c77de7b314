-- The meaning of the texts that write the state tables.
use Rattle.desk_types.proofs.Common.{[], ◌∷◌, ◌≡◌, List, map, range_with_len, refl, ℕ}
use Rattle.line_tables.proofs.Common.{Binary, col, command_of, Compare, Eq, everything, found_tree, Indexed}
use Rattle.line_tables.proofs.Common.{Insert, IsPlain, Layout, lit, Null, op2, Plain, schema_of, Term, Two}
use Rattle.line_tables.proofs.Common.{understood, Update, Values}
use Rattle.line_tables.proofs.FindTexts.{rows_from}
use Rattle.line_tables.specs.declared.floor.TheConstants.{DELETE_MOUNT, INSERT_BOARD, INSERT_MOUNT}
use Rattle.line_tables.specs.declared.floor.TheConstants.{INSERT_REEL, UPDATE_BOARD, UPDATE_REEL}
use Rattle.line_tables.specs.declared.pieces.TheConstants.{INSERT_FOUND, INSERT_PLACEMENT, INSERT_PLACEMENTS}
use Rattle.line_tables.specs.declared.pieces.TheConstants.{UPDATE_FOUND}
use Rattle.line_tables.specs.declared.setup.TheConstants.{DELETE_ALTERNATE, DELETE_PART, DELETE_SHEET_ROW}
use Rattle.line_tables.specs.declared.setup.TheConstants.{INSERT_ALTERNATE, INSERT_PART, INSERT_SELECTED}
use Rattle.line_tables.specs.declared.setup.TheConstants.{INSERT_SHEET_ROW, UPDATE_SELECTED}
use Rattle.sqlite.specs.Command.TheVariants.{Delete}

-- In either layout the text deletes the rows that pass the tests, from the table at this place with this tree.
abbrev pub IsDelete : List ℕ → ℕ → ℕ → List Term → Type 0
IsDelete sql at tree tests = (indexed : Layout) → (command_of (understood (schema_of Two indexed) sql) ≡ Delete at (record { lets = []; body = rows_from tree tests (col 1 0 ∷ []) })) × IsPlain (understood (schema_of Two indexed) sql)

-- The text inserts one row of these terms.
abbrev pub IsInsert : List ℕ → ℕ → List Term → ℕ → Type 0
IsInsert sql at terms width = (indexed : Layout) → (command_of (understood (schema_of Two indexed) sql) ≡ Insert at (Values terms width)) × IsPlain (understood (schema_of Two indexed) sql)

-- No rowid, followed by this many parameters.
abbrev pub row_terms : ℕ → List Term
row_terms columns = lit Null ∷ map (col 0) (range_with_len 0 columns)

-- The old rowid, followed by the old key and this many parameters.
abbrev pub changed_terms : ℕ → List Term
changed_terms columns = col 1 0 ∷ col 1 0 ∷ col 1 1 ∷ map (col 0) (range_with_len 1 columns)

abbrev pub is_param : ℕ → ℕ → Term
is_param place param = op2 (Compare Eq Binary) (col 1 place) (col 0 param)

abbrev pub key_tests : List Term
key_tests = is_param 1 0 ∷ []

pub delete_part_is : IsDelete DELETE_PART.now 2 3 key_tests
unfolding understood everything
delete_part_is indexed = (refl, (refl, refl))

abbrev pub alternate_tests : List Term
alternate_tests = is_param 1 0 ∷ is_param 2 1 ∷ []

pub delete_alternate_is : IsDelete DELETE_ALTERNATE.now 3 5 alternate_tests
unfolding understood everything
delete_alternate_is indexed = (refl, (refl, refl))

abbrev pub sheet_row_tests : List Term
sheet_row_tests = is_param 1 0 ∷ is_param 2 1 ∷ is_param 3 2 ∷ []

pub delete_sheet_row_is : IsDelete DELETE_SHEET_ROW.now 4 7 sheet_row_tests
unfolding understood everything
delete_sheet_row_is indexed = (refl, (refl, refl))

abbrev pub mount_tests : List Term
mount_tests = is_param 4 0 ∷ []

pub delete_mount_is : IsDelete DELETE_MOUNT.now 7 13 mount_tests
unfolding understood everything
delete_mount_is indexed = (refl, (refl, refl))

pub insert_part_is : IsInsert INSERT_PART.now 2 (row_terms 1) 2
unfolding understood everything
insert_part_is indexed = (refl, (refl, refl))

pub insert_alternate_is : IsInsert INSERT_ALTERNATE.now 3 (row_terms 2) 3
unfolding understood everything
insert_alternate_is indexed = (refl, (refl, refl))

pub insert_sheet_row_is : IsInsert INSERT_SHEET_ROW.now 4 (row_terms 6) 7
unfolding understood everything
insert_sheet_row_is indexed = (refl, (refl, refl))

pub insert_selected_is : IsInsert INSERT_SELECTED.now 5 (row_terms 2) 3
unfolding understood everything
insert_selected_is indexed = (refl, (refl, refl))

pub insert_reel_is : IsInsert INSERT_REEL.now 6 (row_terms 12) 13
unfolding understood everything
insert_reel_is indexed = (refl, (refl, refl))

abbrev pub mount_terms : List Term
mount_terms = col 0 0 ∷ lit Null ∷ col 0 1 ∷ col 0 2 ∷ col 0 3 ∷ []

pub insert_mount_is : IsInsert INSERT_MOUNT.now 7 mount_terms 5
unfolding understood everything
insert_mount_is indexed = (refl, (refl, refl))

pub insert_board_is : IsInsert INSERT_BOARD.now 8 (row_terms 3) 4
unfolding understood everything
insert_board_is indexed = (refl, (refl, refl))

pub insert_found_is : IsInsert INSERT_FOUND.now 10 (row_terms 2) 3
unfolding understood everything
insert_found_is indexed = (refl, (refl, refl))

abbrev pub placement_terms : List Term
placement_terms = col 0 0 ∷ col 0 1 ∷ col 0 2 ∷ col 0 3 ∷ col 0 4 ∷ col 0 5 ∷ col 0 6 ∷ col 0 7 ∷ col 0 8 ∷ []

pub insert_placement_is : IsInsert INSERT_PLACEMENT.now 9 placement_terms 9
unfolding understood everything
insert_placement_is indexed = (refl, (refl, refl))

-- The same for eight rows.
abbrev pub placements_terms : List Term
placements_terms = map (col 0) (range_with_len 0 72)

pub insert_placements_is : IsInsert INSERT_PLACEMENTS.now 9 placements_terms 9
unfolding understood everything
insert_placements_is indexed = (refl, (refl, refl))

-- The text changes the rows that have the first parameter as key to these terms, in the table with this tree.
abbrev pub IsUpdate : List ℕ → ℕ → (Layout → ℕ) → List Term → Type 0
IsUpdate sql at tree renewed = (indexed : Layout) → (command_of (understood (schema_of Two indexed) sql) ≡ Update at (record { lets = []; body = rows_from (tree indexed) key_tests renewed })) × IsPlain (understood (schema_of Two indexed) sql)

pub update_selected_is : IsUpdate UPDATE_SELECTED.now 5 (λ _. 9) (changed_terms 1)
unfolding understood everything
update_selected_is indexed = (refl, (refl, refl))

pub update_reel_is : IsUpdate UPDATE_REEL.now 6 (λ _. 11) (changed_terms 11)
unfolding understood everything
update_reel_is indexed = (refl, (refl, refl))

pub update_board_is : IsUpdate UPDATE_BOARD.now 8 (λ _. 15) (changed_terms 2)
unfolding understood everything
update_board_is indexed = (refl, (refl, refl))

pub update_found_is : IsUpdate UPDATE_FOUND.now 10 found_tree (changed_terms 1)
unfolding understood everything
update_found_is (Indexed others) = (refl, (refl, refl))
update_found_is (Plain others) = (refl, (refl, refl))
