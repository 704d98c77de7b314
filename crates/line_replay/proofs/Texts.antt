-- The meaning and the results of the texts.
use Rattle.desk_types.proofs.Common.{[], ◌&&◌, ◌++◌, ◌<◌, ◌∷◌, ◌≡◌, ap, Bool, codes, Err, IfOk, inl, inr}
use Rattle.desk_types.proofs.Common.{List, Name, Ok, pos, refl, Result, ℕ}
use Rattle.line_tables.proofs.Common.{Binary, col, columns, Compare, Eq, Error, everything, Ghosts, has_pair}
use Rattle.line_tables.proofs.Common.{has_sheet_place, has_text, Held, Indexed, Int, One, op2, Plain, Row}
use Rattle.line_tables.proofs.Common.{Selects, state, Term, Text, tree_in, Two, understood}
use Rattle.desk_types.specs.declared.row.PlacementRow.{PlacementRow}
use Rattle.line_replay.proofs.LookUpsByKey.{finds_alone}
use Rattle.line_replay.specs.Alone.{Counts, FindsAlone, ShowsOnly}
use Rattle.line_replay.specs.Placed.{has_placement}
use Rattle.line_replay.specs.TableNames.{name_of, table_of}
use Rattle.line_replay.specs.declared.table.StateTable.{StateTable}
use Rattle.line_replay.specs.declared.table.StateTable.TheVariants.{Alternate, Board, Found, Mount, Part}
use Rattle.line_replay.specs.declared.table.StateTable.TheVariants.{Placement, Reel, Selected, SheetRow}
use Rattle.line_tables.proofs.Between.{placement_places}
use Rattle.line_tables.proofs.FindTexts.{count_from, IsSelect, IsSelectBy, rows_from}
use Rattle.line_tables.proofs.Finds.{and_true}
use Rattle.line_tables.proofs.Numbers.{finds_count}
use Rattle.line_tables.specs.StateRows.{has_int}
use Rattle.line_tables.specs.declared.reading.TheConstants.{MOST_COUNTED}
use Rattle.sqlite.specs.Listing.{listing_schema}
use Rattle.line_tables.specs.Line as line

abbrev is_param : ℕ → ℕ → Term
is_param at param = op2 (Compare Eq Binary) (col 1 at) (col 0 param)

abbrev select_part : List ℕ
select_part = codes "SELECT part FROM part WHERE part = ?1"

abbrev part_test : List Term
part_test = is_param 1 0 ∷ []

abbrev part_places : List Term
part_places = col 1 1 ∷ []

part_is : IsSelect select_part (rows_from 3 part_test part_places) (codes "part" ∷ [])
unfolding understood everything
part_is rules indexed = inl (refl, refl, (refl, refl))

abbrev select_alternate : List ℕ
select_alternate = codes "SELECT part, alternate FROM alternate WHERE part = ?1 AND alternate = ?2"

abbrev alternate_test : List Term
alternate_test = is_param 1 0 ∷ is_param 2 1 ∷ []

abbrev alternate_places : List Term
alternate_places = col 1 1 ∷ col 1 2 ∷ []

alternate_is : IsSelect select_alternate (rows_from 5 alternate_test alternate_places) (codes "part" ∷ codes "alternate" ∷ [])
unfolding understood everything
alternate_is rules indexed = inl (refl, refl, (refl, refl))

abbrev select_selected : List ℕ
select_selected = codes "SELECT machine, product FROM selected WHERE machine = ?1"

abbrev selected_test : List Term
selected_test = is_param 1 0 ∷ []

abbrev selected_places : List Term
selected_places = col 1 1 ∷ col 1 2 ∷ []

selected_is : IsSelect select_selected (rows_from 9 selected_test selected_places) (codes "machine" ∷ codes "product" ∷ [])
unfolding understood everything
selected_is rules indexed = inl (refl, refl, (refl, refl))

abbrev select_reel : List ℕ
select_reel = codes "SELECT reel, part, lot, level, label, received, placed, scrapped, remaining, used, open_since, baked FROM reel WHERE reel = ?1"

abbrev reel_test : List Term
reel_test = is_param 1 0 ∷ []

abbrev reel_places : List Term
reel_places = col 1 1 ∷ col 1 2 ∷ col 1 3 ∷ col 1 4 ∷ col 1 5 ∷ col 1 6 ∷ col 1 7 ∷ col 1 8 ∷ col 1 9 ∷ col 1 10 ∷ col 1 11 ∷ col 1 12 ∷ []

reel_is : IsSelect select_reel (rows_from 11 reel_test reel_places) (codes "reel" ∷ codes "part" ∷ codes "lot" ∷ codes "level" ∷ codes "label" ∷ codes "received" ∷ codes "placed" ∷ codes "scrapped" ∷ codes "remaining" ∷ codes "used" ∷ codes "open_since" ∷ codes "baked" ∷ [])
unfolding understood everything
reel_is rules indexed = inl (refl, refl, (refl, refl))

abbrev select_mount : List ℕ
select_mount = codes "SELECT since, machine, slot, reel FROM mount WHERE reel = ?1"

abbrev mount_test : List Term
mount_test = is_param 4 0 ∷ []

abbrev mount_places : List Term
mount_places = col 1 0 ∷ col 1 2 ∷ col 1 3 ∷ col 1 4 ∷ []

mount_is : IsSelect select_mount (rows_from 13 mount_test mount_places) (codes "since" ∷ codes "machine" ∷ codes "slot" ∷ codes "reel" ∷ [])
unfolding understood everything
mount_is rules indexed = inl (refl, refl, (refl, refl))

abbrev select_board : List ℕ
select_board = codes "SELECT board, product, machine FROM board WHERE board = ?1"

abbrev board_test : List Term
board_test = is_param 1 0 ∷ []

abbrev board_places : List Term
board_places = col 1 1 ∷ col 1 2 ∷ col 1 3 ∷ []

board_is : IsSelect select_board (rows_from 15 board_test board_places) (codes "board" ∷ codes "product" ∷ codes "machine" ∷ [])
unfolding understood everything
board_is rules indexed = inl (refl, refl, (refl, refl))

abbrev select_found : List ℕ
select_found = codes "SELECT reel, pieces FROM found WHERE reel = ?1"

abbrev found_test : List Term
found_test = is_param 1 0 ∷ []

abbrev found_places : List Term
found_places = col 1 1 ∷ col 1 2 ∷ []

found_is : IsSelectBy select_found (λ schema. rows_from (line.tree_in line.found schema) found_test found_places) (codes "reel" ∷ codes "pieces" ∷ [])
unfolding understood everything listing_schema
found_is One indexed = inr refl
found_is Two (Indexed others) = inl (refl, refl, (refl, refl))
found_is Two (Plain others) = inl (refl, refl, (refl, refl))

abbrev select_sheet_row : List ℕ
select_sheet_row = codes "SELECT product, machine, place, slot, part, designators FROM sheet_row WHERE product = ?1 AND machine = ?2 AND place = ?3"

abbrev sheet_row_test : List Term
sheet_row_test = is_param 1 0 ∷ is_param 2 1 ∷ is_param 3 2 ∷ []

abbrev sheet_row_places : List Term
sheet_row_places = col 1 1 ∷ col 1 2 ∷ col 1 3 ∷ col 1 4 ∷ col 1 5 ∷ col 1 6 ∷ []

sheet_row_is : IsSelect select_sheet_row (rows_from 7 sheet_row_test sheet_row_places) (codes "product" ∷ codes "machine" ∷ codes "place" ∷ codes "slot" ∷ codes "part" ∷ codes "designators" ∷ [])
unfolding understood everything
sheet_row_is rules indexed = inl (refl, refl, (refl, refl))

abbrev select_placement : List ℕ
select_placement = codes "SELECT number, place, board, designator, machine, slot, reel, overdue FROM placement WHERE board = ?1 AND designator = ?2 AND number = ?3 AND place = ?4"

abbrev placement_test : List Term
placement_test = is_param 3 0 ∷ is_param 4 1 ∷ is_param 1 2 ∷ is_param 2 3 ∷ []

placement_is : IsSelect select_placement (rows_from 17 placement_test placement_places) (codes "number" ∷ codes "place" ∷ codes "board" ∷ codes "designator" ∷ codes "machine" ∷ codes "slot" ∷ codes "reel" ∷ codes "overdue" ∷ [])
unfolding understood everything
placement_is rules indexed = inl (refl, refl, (refl, refl))

abbrev count_text : StateTable → List ℕ
count_text table = codes "SELECT count(*) FROM " ++ name_of table

count_is : (table : StateTable) → IsSelectBy (count_text table) (λ schema. count_from (line.tree_in (table_of table) schema)) (codes "count(*)" ∷ [])
unfolding understood everything listing_schema
count_is Part rules indexed = inl (refl, refl, (refl, refl))
count_is Alternate rules indexed = inl (refl, refl, (refl, refl))
count_is SheetRow rules indexed = inl (refl, refl, (refl, refl))
count_is Selected rules indexed = inl (refl, refl, (refl, refl))
count_is Reel rules indexed = inl (refl, refl, (refl, refl))
count_is Mount rules indexed = inl (refl, refl, (refl, refl))
count_is Board rules indexed = inl (refl, refl, (refl, refl))
count_is Placement rules indexed = inl (refl, refl, (refl, refl))
count_is Found One indexed = inr refl
count_is Found Two (Indexed others) = inl (refl, refl, (refl, refl))
count_is Found Two (Plain others) = inl (refl, refl, (refl, refl))

pub counted : {S : Type 0} (g : Ghosts S) (old : Held S) (table : StateTable) (rows : List Row) → Selects g (count_text table) [] old rows
    → (r : Result ℕ Error) → IfOk r (λ n. rows ≡ (Int (pos n) ∷ []) ∷ []) → IfOk r (λ n. n < MOST_COUNTED) → IfOk r (Counts (table_of table) (state g old))
counted g old table rows shows (Ok n) row below = finds_count g (count_text table) (tree_in (table_of table)) _ (count_is table) (columns (table_of table)) old rows n shows row below
counted g old table rows shows (Err e) row below = tt

module _ {S : Type 0} (g : Ghosts S) (old : Held S) (row : Row) (b : Bool) where
  pub part_alone : (part : Name) → ShowsOnly g select_part (Text part ∷ []) old row b → FindsAlone line.part (has_text 0 part) row (state g old) b
  part_alone part shows = finds_alone g select_part line.part part_test part_places _ part_is (Text part ∷ []) (has_text 0 part) (λ r. and_true _) (λ r. refl) old row b shows

  pub alternate_alone : (part alternate : Name) → ShowsOnly g select_alternate (Text part ∷ Text alternate ∷ []) old row b → FindsAlone line.alternate (has_pair (part, alternate)) row (state g old) b
  alternate_alone part alternate shows = finds_alone g select_alternate line.alternate alternate_test alternate_places _ alternate_is (Text part ∷ Text alternate ∷ []) (has_pair (part, alternate)) (λ r. ap (λ c. has_text 0 part (columns line.alternate r) && c) (and_true _)) (λ r. refl) old row b shows

  pub selected_alone : (machine : Name) → ShowsOnly g select_selected (Text machine ∷ []) old row b → FindsAlone line.selected (has_text 0 machine) row (state g old) b
  selected_alone machine shows = finds_alone g select_selected line.selected selected_test selected_places _ selected_is (Text machine ∷ []) (has_text 0 machine) (λ r. and_true _) (λ r. refl) old row b shows

  pub reel_alone : (reel : Name) → ShowsOnly g select_reel (Text reel ∷ []) old row b → FindsAlone line.reel (has_text 0 reel) row (state g old) b
  reel_alone reel shows = finds_alone g select_reel line.reel reel_test reel_places _ reel_is (Text reel ∷ []) (has_text 0 reel) (λ r. and_true _) (λ r. refl) old row b shows

  pub mount_alone : (reel : Name) → ShowsOnly g select_mount (Text reel ∷ []) old row b → FindsAlone line.mount (has_text 3 reel) row (state g old) b
  mount_alone reel shows = finds_alone g select_mount line.mount mount_test mount_places _ mount_is (Text reel ∷ []) (has_text 3 reel) (λ r. and_true _) (λ r. refl) old row b shows

  pub board_alone : (board : Name) → ShowsOnly g select_board (Text board ∷ []) old row b → FindsAlone line.board (has_text 0 board) row (state g old) b
  board_alone board shows = finds_alone g select_board line.board board_test board_places _ board_is (Text board ∷ []) (has_text 0 board) (λ r. and_true _) (λ r. refl) old row b shows

  pub found_alone : (reel : Name) → ShowsOnly g select_found (Text reel ∷ []) old row b → FindsAlone line.found (has_text 0 reel) row (state g old) b
  found_alone reel shows = finds_alone g select_found line.found found_test found_places _ found_is (Text reel ∷ []) (has_text 0 reel) (λ r. and_true _) (λ r. refl) old row b shows

  pub sheet_row_alone : (product machine : Name) (place : ℕ) → ShowsOnly g select_sheet_row (Text product ∷ Text machine ∷ Int (pos place) ∷ []) old row b → FindsAlone line.sheet_row (has_sheet_place (product, machine, place)) row (state g old) b
  sheet_row_alone product machine place shows = finds_alone g select_sheet_row line.sheet_row sheet_row_test sheet_row_places _ sheet_row_is (Text product ∷ Text machine ∷ Int (pos place) ∷ []) (has_sheet_place (product, machine, place)) (λ r. ap (λ c. has_text 0 product (columns line.sheet_row r) && (has_text 1 machine (columns line.sheet_row r) && c)) (and_true _)) (λ r. refl) old row b shows

  pub placement_alone : (p : PlacementRow) → ShowsOnly g select_placement (Text p.board ∷ Text p.designator ∷ Int (pos p.number) ∷ Int (pos p.place) ∷ []) old row b → FindsAlone line.placement (has_placement p) row (state g old) b
  placement_alone p shows =
      finds_alone g select_placement line.placement placement_test placement_places _ placement_is (Text p.board ∷ Text p.designator ∷ Int (pos p.number) ∷ Int (pos p.place) ∷ []) (has_placement p)
      (λ r. let row = columns line.placement r in ap (λ c. has_text 2 p.board row && (has_text 3 p.designator row && (has_int 0 p.number row && c))) (and_true _)) (λ r. refl) old row b shows
