-- The effect of the statements on the state tables.
use Rattle.desk_types.proofs.Common.{[], ◌&&◌, ◌+◌, ◌==◌, ◌||◌, ◌∙◌, ◌∷◌, ◌≡◌, and_from, and_parts, ap, ap₂}
use Rattle.desk_types.proofs.Common.{Bool, drop, false, if◌then◌else◌, inl, inr, IsTrue, length, List, map}
use Rattle.desk_types.proofs.Common.{Name, None, not, Option, pos, refl, same, slice_get, Some, subst, sym}
use Rattle.desk_types.proofs.Common.{true, ℕ, ℤ}
use Rattle.line_tables.proofs.Common.{alternate, AreApart, AreRows, Binary, board, bound, cast_row, Chosen}
use Rattle.line_tables.proofs.Common.{col, column, columns, command_of, Database, Enforced, equal, flag}
use Rattle.line_tables.proofs.Common.{found, found_tree, Ghosts, has_pair, has_sheet_place, has_text, Indexed}
use Rattle.line_tables.proofs.Common.{Int, is_int, IsPlain, Layout, mount, Null, owned, part, Plain, reel}
use Rattle.line_tables.proofs.Common.{reel_columns, Row, rowid, rows_in, Runs, schema_of, schema_tables}
use Rattle.line_tables.proofs.Common.{selected, sheet_row, State, state, Table, Term, Text, Two, understood}
use Rattle.line_tables.proofs.Common.{Update, Value, value_cmp, values_of, with_rowid, works}
use Rattle.desk_types.specs.declared.edit.RowEdit.TheVariants.{PutAlternate, PutBoard, PutFound, PutMount}
use Rattle.desk_types.specs.declared.edit.RowEdit.TheVariants.{PutPart, PutReel, PutSelected, PutSheetRow}
use Rattle.desk_types.specs.declared.edit.RowEdit.TheVariants.{TakeMount, TakeSheetRow}
use Rattle.desk_types.specs.declared.row.BoardRow.{BoardRow}
use Rattle.desk_types.specs.declared.row.MountRow.{MountRow}
use Rattle.desk_types.specs.declared.row.ReelRow.{ReelRow}
use Rattle.desk_types.specs.declared.sheet.SheetRow.{SheetRow}
use Rattle.line_tables.proofs.Alterations.{deletes, inserts, updates_none, updates_one}
use Rattle.line_tables.proofs.Altering.{Alters, alters_then, alters_writes, far_from_found, found_kept}
use Rattle.line_tables.proofs.Altering.{put_in, rows_at, without}
use Rattle.line_tables.proofs.Beside.{found_low, is_low, quiet}
use Rattle.line_tables.proofs.Changes.{Changed, delete_does, passing, renewed, shows_of, update_does}
use Rattle.line_tables.proofs.FindTexts.{rows_from}
use Rattle.line_tables.proofs.Finds.{and_true}
use Rattle.line_tables.proofs.Inserts.{insert_does, Inserted}
use Rattle.line_tables.proofs.Keyed.{added, changed, one_pair, one_sheet_place, one_text, own_int, own_text}
use Rattle.line_tables.proofs.Keyed.{same_pair, same_sheet_place, tells_pair, tells_sheet_place, tells_text}
use Rattle.line_tables.proofs.Puts.{cast_int, cast_null}
use Rattle.line_tables.proofs.RowTexts.{alternate_tests, changed_terms, delete_alternate_is, delete_mount_is}
use Rattle.line_tables.proofs.RowTexts.{delete_part_is, delete_sheet_row_is, insert_alternate_is}
use Rattle.line_tables.proofs.RowTexts.{insert_board_is, insert_found_is, insert_mount_is, insert_part_is}
use Rattle.line_tables.proofs.RowTexts.{insert_reel_is, insert_selected_is, insert_sheet_row_is, IsInsert}
use Rattle.line_tables.proofs.RowTexts.{key_tests, mount_terms, mount_tests, row_terms, sheet_row_tests}
use Rattle.line_tables.proofs.RowTexts.{update_board_is, update_found_is, update_reel_is, update_selected_is}
use Rattle.line_tables.specs.Calls.{Changes, ChangesOrPuts, WritesRow}
use Rattle.line_tables.specs.Line.{found_by}
use Rattle.line_tables.specs.StateRows.{alternate_columns, board_columns, found_columns, mount_columns}
use Rattle.line_tables.specs.StateRows.{part_columns, selected_columns, sheet_columns, since_or_none, unit_if}
use Rattle.line_tables.specs.declared.floor.TheConstants.{DELETE_MOUNT, INSERT_BOARD, INSERT_MOUNT}
use Rattle.line_tables.specs.declared.floor.TheConstants.{INSERT_REEL, UPDATE_BOARD, UPDATE_REEL}
use Rattle.line_tables.specs.declared.pieces.TheConstants.{INSERT_FOUND, UPDATE_FOUND}
use Rattle.line_tables.specs.declared.setup.TheConstants.{DELETE_ALTERNATE, DELETE_PART, DELETE_SHEET_ROW}
use Rattle.line_tables.specs.declared.setup.TheConstants.{INSERT_ALTERNATE, INSERT_PART, INSERT_SELECTED}
use Rattle.line_tables.specs.declared.setup.TheConstants.{INSERT_SHEET_ROW, UPDATE_SELECTED}
use Rattle.sqlite.specs.Effect.{value_rows}
use Rattle.sqlite.specs.Ops.{binary}
use Rattle.sqlite.specs.Values.{bound_value}
use Rattle.sqlite.specs.declared.types.Value.TheVariants.{Blob, Real}
use Rattle.sqlite_rules.proofs.TableLemmas.{int_is}
use Rattle.sqlite_rules.specs.Edit.{id_in, next_rowid}
use Rattle.sqlite_value.specs.declared.value.ValueRef.{ValueRef}
use Rattle.std.proofs.Common.{◌/◌}
use Rattle.std.proofs.lemmas.Simd.{map-map}

-- Values are bound unchanged, except a NaN.
pub bound_as : (lent : List ValueRef) (row : Row) → values_of lent ≡ row → bound lent ≡ map bound_value row
bound_as lent row is = sym (map-map bound_value owned lent) ∙ ap (map bound_value) is

module _ (i : Layout) (old new : State) where
  pub takes_part : (p : Name) → Runs DELETE_PART.now (Text p ∷ []) old new → Alters i part (without (has_text 0 p)) old new
  takes_part p ran =
      deletes i part (has_text 0 p) key_tests (col 1 0 ∷ []) (Text p ∷ []) old new (λ r. and_true _) (λ r. refl) ran.shown.was_open
      (λ has. delete_does DELETE_PART.now (Text p ∷ []) old new (schema_of Two i) has 2 part key_tests (col 1 0 ∷ []) refl (quiet i 3 refl) (delete_part_is i).1 ran.count ran.executed (delete_part_is i).0)

  pub takes_alternate : (p : Name) (q : Name) → Runs DELETE_ALTERNATE.now (Text p ∷ Text q ∷ []) old new → Alters i alternate (without (has_pair (p, q))) old new
  takes_alternate p q ran =
      deletes i alternate (has_pair (p, q)) alternate_tests (col 1 0 ∷ []) (Text p ∷ Text q ∷ []) old new (λ r. ap (λ c. has_text 0 p (columns alternate r) && c) (and_true _)) (λ r. refl) ran.shown.was_open
      (λ has. delete_does DELETE_ALTERNATE.now (Text p ∷ Text q ∷ []) old new (schema_of Two i) has 3 alternate alternate_tests (col 1 0 ∷ []) refl (quiet i 5 refl) (delete_alternate_is i).1 ran.count ran.executed (delete_alternate_is i).0)

  pub takes_sheet_row : (p : Name) (m : Name) (n : ℕ) → Runs DELETE_SHEET_ROW.now (Text p ∷ Text m ∷ Int (pos n) ∷ []) old new → Alters i sheet_row (without (has_sheet_place (p, m, n))) old new
  takes_sheet_row p m n ran =
      deletes i sheet_row (has_sheet_place (p, m, n)) sheet_row_tests (col 1 0 ∷ []) (Text p ∷ Text m ∷ Int (pos n) ∷ []) old new (λ r. ap (λ c. has_text 0 p (columns sheet_row r) && (has_text 1 m (columns sheet_row r) && c)) (and_true _)) (λ r. refl) ran.shown.was_open
      (λ has. delete_does DELETE_SHEET_ROW.now (Text p ∷ Text m ∷ Int (pos n) ∷ []) old new (schema_of Two i) has 4 sheet_row sheet_row_tests (col 1 0 ∷ []) refl (quiet i 7 refl) (delete_sheet_row_is i).1 ran.count ran.executed (delete_sheet_row_is i).0)

  pub takes_mount : (r : Name) → Runs DELETE_MOUNT.now (Text r ∷ []) old new → Alters i mount (without (has_text 3 r)) old new
  takes_mount r ran =
      deletes i mount (has_text 3 r) mount_tests (col 1 0 ∷ []) (Text r ∷ []) old new (λ r. and_true _) (λ r. refl) ran.shown.was_open
      (λ has. delete_does DELETE_MOUNT.now (Text r ∷ []) old new (schema_of Two i) has 7 mount mount_tests (col 1 0 ∷ []) refl (quiet i 13 refl) (delete_mount_is i).1 ran.count ran.executed (delete_mount_is i).0)

  -- An insert of values that their columns keep as they are, under the next rowid.
  puts : (table : Table) (at count : ℕ) (sql : List ℕ) (row : Row) → slice_get (schema_tables Two i) at ≡ Some table → table.is_counted ≡ false → table.stamps.terms ≡ [] → IsInsert sql at (row_terms count) (count + 1) → value_rows row (count + 1) (length (row_terms count) / (count + 1)) (row_terms count) ≡ (Null ∷ row) ∷ []
      → is_low i table.tree ≡ true → cast_row table (Null ∷ row) ≡ Null ∷ row → ((id : ℤ) → columns table (Int id ∷ row) ≡ row) → Runs sql row old new → Alters i table (λ rows. row ∷ rows) old new
  puts table at count sql row listed uncounted unstamped is single low cast shown ran =
      inserts i table (Null ∷ row) row (λ rows. Int (next_rowid rows) ∷ row) old new (λ rows. ap (with_rowid Chosen rows) cast) (λ rows. refl) (λ rows. shown (next_rowid rows)) ran.shown.was_open
      (λ has. subst (λ rows. Inserted (schema_of Two i) table rows old new) single (insert_does sql row old new (schema_of Two i) has at table (row_terms count) (count + 1) listed uncounted unstamped (is i).0 (is i).1 ran.count ran.executed (quiet i table.tree low [])))

  pub puts_part : (p : Name) → Runs INSERT_PART.now (part_columns p) old new → Alters i part (λ rows. part_columns p ∷ rows) old new
  puts_part p = puts part 2 1 INSERT_PART.now (part_columns p) refl refl refl insert_part_is refl refl (rw (cast_null) refl) (λ id. refl)

  pub puts_alternate : (p : Name) (q : Name) → Runs INSERT_ALTERNATE.now (alternate_columns (p, q)) old new → Alters i alternate (λ rows. alternate_columns (p, q) ∷ rows) old new
  puts_alternate p q = puts alternate 3 2 INSERT_ALTERNATE.now (alternate_columns (p, q)) refl refl refl insert_alternate_is refl refl (rw (cast_null) refl) (λ id. refl)

  pub puts_sheet_row : (p : Name) (m : Name) (n : ℕ) (row : SheetRow) → Runs INSERT_SHEET_ROW.now (sheet_columns (p, m, n) row) old new → Alters i sheet_row (λ rows. sheet_columns (p, m, n) row ∷ rows) old new
  puts_sheet_row p m n row = puts sheet_row 4 6 INSERT_SHEET_ROW.now (sheet_columns (p, m, n) row) refl refl refl insert_sheet_row_is refl refl (rw (cast_null, cast_int (pos n)) refl) (λ id. refl)

  pub puts_selected : (m : Name) (p : Name) → Runs INSERT_SELECTED.now (selected_columns m p) old new → Alters i selected (λ rows. selected_columns m p ∷ rows) old new
  puts_selected m p = puts selected 5 2 INSERT_SELECTED.now (selected_columns m p) refl refl refl insert_selected_is refl refl (rw (cast_null) refl) (λ id. refl)

  pub puts_reel : (row : ReelRow) → Runs INSERT_REEL.now (reel_columns row) old new → Alters i reel (λ rows. reel_columns row ∷ rows) old new
  puts_reel row = puts reel 6 12 INSERT_REEL.now (reel_columns row) refl refl refl insert_reel_is refl refl (rw (cast_null, cast_int (pos row.label), cast_int (pos row.received), cast_int (pos row.placed), cast_int (pos row.scrapped), cast_int (pos row.remaining), cast_int (pos row.used), cast_int (since_or_none row.open_since), cast_int (flag row.baked)) refl) (λ id. refl)

  pub puts_board : (row : BoardRow) → Runs INSERT_BOARD.now (board_columns row) old new → Alters i board (λ rows. board_columns row ∷ rows) old new
  puts_board row = puts board 8 3 INSERT_BOARD.now (board_columns row) refl refl refl insert_board_is refl refl (rw (cast_null) refl) (λ id. refl)

  pub puts_found : (r : Name) (n : ℕ) → Runs INSERT_FOUND.now (found_columns r n) old new → Alters i (found_by i) (λ rows. found_columns r n ∷ rows) old new
  puts_found r n = puts (found_by i) 10 2 INSERT_FOUND.now (found_columns r n) refl refl refl insert_found_is refl (found_low i) (rw (cast_null, cast_int (pos n)) refl) (λ id. refl)

  -- The number of a mount is its rowid.
  abbrev mount_kept : MountRow → Row
  mount_kept row = Int (pos row.since) ∷ Null ∷ Text row.machine ∷ Text row.slot ∷ Text row.reel ∷ []

  mount_cast : (row : MountRow) → cast_row mount (mount_kept row) ≡ mount_kept row
  mount_cast row = rw (cast_null, cast_int (pos row.since)) refl

  mount_in : (row : MountRow) → Runs INSERT_MOUNT.now (mount_columns row) old new → old.now.schema ≡ schema_of Two i → Inserted (schema_of Two i) mount (mount_kept row ∷ []) old new
  mount_in row ran has = insert_does INSERT_MOUNT.now (mount_columns row) old new (schema_of Two i) has 7 mount mount_terms 5 refl refl refl (insert_mount_is i).0 (insert_mount_is i).1 ran.count ran.executed (quiet i 13 refl [])

  pub puts_mount : (row : MountRow) → Runs INSERT_MOUNT.now (mount_columns row) old new → Alters i mount (λ rows. mount_columns row ∷ rows) old new
  puts_mount row ran = inserts i mount (mount_kept row) (mount_columns row) (λ rows. mount_kept row) old new (λ rows. ap (with_rowid Chosen rows) (mount_cast row)) (λ rows. refl) (λ rows. refl) ran.shown.was_open (mount_in row ran)

-- ---- a row that replaces the one with its key, which is its first column

equal_text : (v : Value) (k : List ℕ) → equal Binary v (Text k) ≡ true → v ≡ Text k
unfolding binary value_cmp
equal_text Null k h = absurd (cc)
equal_text (Int n) k h = absurd (cc)
equal_text (Real x) k h = absurd (cc)
equal_text (Blob b) k h = absurd (cc)
equal_text (Text t) k h = ap Text (one_text 0 t k (Text t ∷ []) (own_text t) h)

module _ (i : Layout) (table : Table) (at : ℕ) (key : Name) (rest : Row) (terms : List Term) (update insert : List ℕ) (listed : slice_get (schema_tables Two i) at ≡ Some table)
    (silent : (olds news : List Row) → works (schema_of Two i) Enforced 0 table.tree olds news ≡ []) (is : (command_of (understood (schema_of Two i) update) ≡ Update at (record { lets = []; body = rows_from table.tree key_tests terms })) × IsPlain (understood (schema_of Two i) update))
    (by_key : (r : Row) → passing key_tests (Text key ∷ rest) r ≡ has_text 0 key (columns table r))
    (shown : (r : Row) → shows_of table.tree key_tests terms (Text key ∷ rest) r ≡ column r 0 ∷ column r 0 ∷ column r 1 ∷ rest)
    (cast : (id : ℤ) → cast_row table (Int id ∷ Text key ∷ rest) ≡ Int id ∷ Text key ∷ rest) (kept : (id : ℤ) → columns table (Int id ∷ Text key ∷ rest) ≡ Text key ∷ rest)
    (puts : (b c : State) → Runs insert (Text key ∷ rest) b c → Alters i table (λ rows. (Text key ∷ rest) ∷ rows) b c) where
  abbrev values : Row
  values = Text key ∷ rest

  renews : (r : Row) → passing key_tests values r ≡ true → IsTrue (is_int (rowid r))
      → let news = cast_row table (drop 1 (shows_of table.tree key_tests terms values r)) in IsTrue (is_int (rowid news)) × (columns table news ≡ values)
  renews r passes keyed =
      let id = id_in (rowid r) in
      let rid : column r 0 ≡ Int id = int_is (rowid r) keyed in
      let same : column r 1 ≡ Text key = equal_text (column r 1) key (and_parts _ _ passes).0 in
      let is : cast_row table (drop 1 (shows_of table.tree key_tests terms values r)) ≡ Int id ∷ values =
      ap (λ s. cast_row table (drop 1 s)) (shown r) ∙ ap₂ (λ a b. cast_row table (a ∷ b ∷ rest)) rid same ∙ cast id in
      (subst (λ x. IsTrue (is_int (rowid x))) (sym is) refl, ap (columns table) is ∙ kept id)

  does : (count : ℕ) (a b : State) → Changes count update values a b → a.now.schema ≡ schema_of Two i → (h : Changed (schema_of Two i) table key_tests terms values (renewed table) a b) × (count ≡ length h.found)
  does count a b ran has = update_does update values a b (schema_of Two i) has at table key_tests terms listed silent is.1 count ran.executed is.0

  pub in_place : {S : Type 0} (g : Ghosts S) (a c : State) → ChangesOrPuts g update insert values a c → Alters i table (put_in (has_text 0 key) values) a c
  in_place g a c did = elim did [
    | inl one ↦ updates_one i table (has_text 0 key) key_tests terms values values a c by_key (λ r. ap rowid (shown r)) one.shown.was_open 1 (does 1 a c one) renews refl
    | inr (between, none, ran) ↦
        let b = state g between in
        let out = updates_none i table (has_text 0 key) key_tests terms values values a b by_key (λ r. ap rowid (shown r)) none.shown.was_open 0 (does 0 a b none) refl in
        alters_then i table (without (has_text 0 key)) (λ rows. values ∷ rows) a b c out (puts b c ran)
  ]

-- ---- the edits

unit_or : (a b : Bool) → unit_if (a || b) ≡ (if a then Some tt else unit_if b)
unit_or true b = refl
unit_or false b = refl

pub part_put : (p : Name) (a b c : State) → Runs DELETE_PART.now (Text p ∷ []) a b → Runs INSERT_PART.now (part_columns p) b c → WritesRow (PutPart p) a c
part_put p a b c gone ran =
    alters_writes (PutPart p) (λ _. part) (put_in (has_text 0 p) (part_columns p)) a c (λ _. refl) (λ _ _ all. all.0) (λ _ t _ was k new perm. record { parts = changed (has_text 0) (λ part _. part_columns part) (one_text 0) same tells_text p (Some tt) _ _ (λ part. unit_if (t.parts part)) _ (own_text p, tt) (λ l. unit_or _ _) perm was.parts; alternates = k.alternates refl; sheets = k.sheets refl; selected = k.selected refl; reels = k.reels refl; mounts = k.mounts refl; boards = k.boards refl; placements = k.placements refl; found = k.found refl })
    (λ i. alters_then i part (without (has_text 0 p)) (λ rows. part_columns p ∷ rows) a b c (takes_part i a b p gone) (puts_part i b c p ran))

pub alternate_put : (p q : Name) (a b c : State) → Runs DELETE_ALTERNATE.now (Text p ∷ Text q ∷ []) a b → Runs INSERT_ALTERNATE.now (alternate_columns (p, q)) b c → WritesRow (PutAlternate p q) a c
alternate_put p q a b c gone ran =
    alters_writes (PutAlternate p q) (λ _. alternate) (put_in (has_pair (p, q)) (alternate_columns (p, q))) a c (λ _. refl) (λ _ _ all. all.1.0) (λ _ t _ was k new perm. record { parts = k.parts refl; alternates = changed has_pair (λ pair _. alternate_columns pair) one_pair same_pair tells_pair (p, q) (Some tt) _ _ (λ pair. unit_if (t.alternates pair.0 pair.1)) _ (and_from _ _ (own_text p) (own_text q), tt) (λ l. unit_or _ _) perm was.alternates; sheets = k.sheets refl; selected = k.selected refl; reels = k.reels refl; mounts = k.mounts refl; boards = k.boards refl; placements = k.placements refl; found = k.found refl })
    (λ i. alters_then i alternate (without (has_pair (p, q))) (λ rows. alternate_columns (p, q) ∷ rows) a b c (takes_alternate i a b p q gone) (puts_alternate i b c p q ran))

pub sheet_row_taken : (p m : Name) (n : ℕ) (a c : State) → Runs DELETE_SHEET_ROW.now (Text p ∷ Text m ∷ Int (pos n) ∷ []) a c → WritesRow (TakeSheetRow p m n) a c
sheet_row_taken p m n a c ran =
    alters_writes (TakeSheetRow p m n) (λ _. sheet_row) (without (has_sheet_place (p, m, n))) a c (λ _. refl) (λ _ _ all. all.1.1.0) (λ _ t _ was k new perm. record { parts = k.parts refl; alternates = k.alternates refl; sheets = changed has_sheet_place sheet_columns one_sheet_place same_sheet_place tells_sheet_place (p, m, n) None _ _ (λ at. t.sheets at.0 at.1 at.2) _ tt (λ l. refl) perm was.sheets; selected = k.selected refl; reels = k.reels refl; mounts = k.mounts refl; boards = k.boards refl; placements = k.placements refl; found = k.found refl })
    (λ i. takes_sheet_row i a c p m n ran)

pub sheet_row_put : (p m : Name) (n : ℕ) (row : SheetRow) (a c : State) → Runs INSERT_SHEET_ROW.now (sheet_columns (p, m, n) row) a c → WritesRow (PutSheetRow p m n row) a c
sheet_row_put p m n row a c ran =
    alters_writes (PutSheetRow p m n row) (λ _. sheet_row) (λ rows. sheet_columns (p, m, n) row ∷ rows) a c (λ _. refl) (λ _ _ all. all.1.1.0) (λ _ t _ was k new perm. record { parts = k.parts refl; alternates = k.alternates refl; sheets = added has_sheet_place sheet_columns one_sheet_place same_sheet_place tells_sheet_place (p, m, n) row _ _ (λ at. t.sheets at.0 at.1 at.2) _ new (and_from _ _ (own_text p) (and_from _ _ (own_text m) (own_int n))) (λ l. refl) perm was.sheets; selected = k.selected refl; reels = k.reels refl; mounts = k.mounts refl; boards = k.boards refl; placements = k.placements refl; found = k.found refl })
    (λ i. puts_sheet_row i a c p m n row ran)

pub mount_taken : (r : Name) (a c : State) → Runs DELETE_MOUNT.now (Text r ∷ []) a c → WritesRow (TakeMount r) a c
mount_taken r a c ran =
    alters_writes (TakeMount r) (λ _. mount) (without (has_text 3 r)) a c (λ _. refl) (λ _ _ all. all.1.1.1.1.1.0) (λ _ t _ was k new perm. record { parts = k.parts refl; alternates = k.alternates refl; sheets = k.sheets refl; selected = k.selected refl; reels = k.reels refl; mounts = changed (has_text 3) (λ _ row. mount_columns row) (one_text 3) same tells_text r None _ _ t.mounts _ tt (λ l. refl) perm was.mounts; boards = k.boards refl; placements = k.placements refl; found = k.found refl })
    (λ i. takes_mount i a c r ran)

pub mount_put : (row : MountRow) (a c : State) → Runs INSERT_MOUNT.now (mount_columns row) a c → WritesRow (PutMount row) a c
mount_put row a c ran =
    alters_writes (PutMount row) (λ _. mount) (λ rows. mount_columns row ∷ rows) a c (λ _. refl) (λ _ _ all. all.1.1.1.1.1.0) (λ _ t _ was k new perm. record { parts = k.parts refl; alternates = k.alternates refl; sheets = k.sheets refl; selected = k.selected refl; reels = k.reels refl; mounts = added (has_text 3) (λ _ row. mount_columns row) (one_text 3) same tells_text row.reel row _ _ t.mounts _ new (own_text row.reel) (λ l. refl) perm was.mounts; boards = k.boards refl; placements = k.placements refl; found = k.found refl })
    (λ i. puts_mount i a c row ran)

pub selected_put : {S : Type 0} (g : Ghosts S) (m p : Name) (a c : State) → ChangesOrPuts g UPDATE_SELECTED.now INSERT_SELECTED.now (selected_columns m p) a c → WritesRow (PutSelected m p) a c
selected_put g m p a c did =
    alters_writes (PutSelected m p) (λ _. selected) (put_in (has_text 0 m) (selected_columns m p)) a c (λ _. refl) (λ _ _ all. all.1.1.1.0) (λ _ t _ was k new perm. record { parts = k.parts refl; alternates = k.alternates refl; sheets = k.sheets refl; selected = changed (has_text 0) selected_columns (one_text 0) same tells_text m (Some p) _ _ t.selected _ (own_text m, tt) (λ l. refl) perm was.selected; reels = k.reels refl; mounts = k.mounts refl; boards = k.boards refl; placements = k.placements refl; found = k.found refl })
    (λ i. in_place i selected 5 m (Text p ∷ []) (changed_terms 1) UPDATE_SELECTED.now INSERT_SELECTED.now refl (quiet i 9 refl) (update_selected_is i) (λ r. and_true _) (λ r. refl) (λ id. rw (cast_int id) refl) (λ id. refl) (λ b c. puts_selected i b c m p) g a c did)

pub board_put : {S : Type 0} (g : Ghosts S) (row : BoardRow) (a c : State) → ChangesOrPuts g UPDATE_BOARD.now INSERT_BOARD.now (board_columns row) a c → WritesRow (PutBoard row) a c
board_put g row a c did =
    alters_writes (PutBoard row) (λ _. board) (put_in (has_text 0 row.board) (board_columns row)) a c (λ _. refl) (λ _ _ all. all.1.1.1.1.1.1.0) (λ _ t _ was k new perm. record { parts = k.parts refl; alternates = k.alternates refl; sheets = k.sheets refl; selected = k.selected refl; reels = k.reels refl; mounts = k.mounts refl; boards = changed (has_text 0) (λ _ row. board_columns row) (one_text 0) same tells_text row.board (Some row) _ _ t.boards _ (own_text row.board, tt) (λ l. refl) perm was.boards; placements = k.placements refl; found = k.found refl })
    (λ i. in_place i board 8 row.board (drop 1 (board_columns row)) (changed_terms 2) UPDATE_BOARD.now INSERT_BOARD.now refl (quiet i 15 refl) (update_board_is i) (λ r. and_true _) (λ r. refl) (λ id. rw (cast_int id) refl) (λ id. refl) (λ b c. puts_board i b c row) g a c did)

-- The rows of `found` in its tree.
abbrev AreFound : Layout → Database → (Name → Option ℕ) → Type 0
AreFound i db f = AreRows (has_text 0) found_columns (rows_at (found_by i) db) f

to_tree : (i : Layout) (db : Database) (f : Name → Option ℕ) → db.schema ≡ schema_of Two i → AreRows (has_text 0) found_columns (rows_in found db) f → AreFound i db f
to_tree i db f has rows = subst (λ l. AreRows (has_text 0) found_columns (map (columns found) l) f) (found_kept i db has) rows

from_tree : (i : Layout) (db : Database) (f : Name → Option ℕ) → db.schema ≡ schema_of Two i → AreFound i db f → AreRows (has_text 0) found_columns (rows_in found db) f
from_tree i db f has rows = subst (λ l. AreRows (has_text 0) found_columns (map (columns found) l) f) (sym (found_kept i db has)) rows

found_sole : (i : Layout) → (not (0 == found_tree i) && (not (1 == found_tree i) && is_low i (found_tree i))) ≡ true
found_sole (Indexed others) = refl
found_sole (Plain others) = refl

pub found_put : {S : Type 0} (g : Ghosts S) (r : Name) (n : ℕ) (a c : State) → ChangesOrPuts g UPDATE_FOUND.now INSERT_FOUND.now (found_columns r n) a c → WritesRow (PutFound r n) a c
found_put g r n a c did =
    alters_writes (PutFound r n) found_by (put_in (has_text 0 r) (found_columns r n)) a c found_sole (λ i has all. subst AreApart (found_kept i a.now has) all.1.1.1.1.1.1.1.0)
    (λ i t beside was k new perm. record { parts = k.parts (far_from_found i 3 refl); alternates = k.alternates (far_from_found i 5 refl); sheets = k.sheets (far_from_found i 7 refl); selected = k.selected (far_from_found i 9 refl); reels = k.reels (far_from_found i 11 refl); mounts = k.mounts (far_from_found i 13 refl); boards = k.boards (far_from_found i 15 refl); placements = k.placements (far_from_found i 17 refl); found = from_tree i c.now _ beside.is (changed (has_text 0) found_columns (one_text 0) same tells_text r (Some n) _ _ t.found _ (own_text r, tt) (λ l. refl) perm (to_tree i a.now t.found beside.was was.found)) })
    (λ i. in_place i (found_by i) 10 r (Int (pos n) ∷ []) (changed_terms 1) UPDATE_FOUND.now INSERT_FOUND.now refl (quiet i (found_tree i) (found_low i)) (update_found_is i) (λ r. and_true _) (λ r. refl) (λ id. rw (cast_int id, cast_int (pos n)) refl) (λ id. refl) (λ b c. puts_found i b c r n) g a c did)

reel_kept : (row : ReelRow) (id : ℤ) → cast_row reel (Int id ∷ reel_columns row) ≡ Int id ∷ reel_columns row
reel_kept row id =
    rw (cast_int id, cast_int (pos row.label), cast_int (pos row.received), cast_int (pos row.placed), cast_int (pos row.scrapped), cast_int (pos row.remaining), cast_int (pos row.used), cast_int (since_or_none row.open_since), cast_int (flag row.baked)) refl

pub reel_put : {S : Type 0} (g : Ghosts S) (row : ReelRow) (a c : State) → ChangesOrPuts g UPDATE_REEL.now INSERT_REEL.now (reel_columns row) a c → WritesRow (PutReel row) a c
reel_put g row a c did =
    alters_writes (PutReel row) (λ _. reel) (put_in (has_text 0 row.reel) (reel_columns row)) a c (λ _. refl) (λ _ _ all. all.1.1.1.1.0) (λ _ t _ was k new perm. record { parts = k.parts refl; alternates = k.alternates refl; sheets = k.sheets refl; selected = k.selected refl; reels = changed (has_text 0) (λ _ row. reel_columns row) (one_text 0) same tells_text row.reel (Some row) _ _ t.reels _ (own_text row.reel, tt) (λ l. refl) perm was.reels; mounts = k.mounts refl; boards = k.boards refl; placements = k.placements refl; found = k.found refl })
    (λ i. in_place i reel 6 row.reel (drop 1 (reel_columns row)) (changed_terms 11) UPDATE_REEL.now INSERT_REEL.now refl (quiet i 11 refl) (update_reel_is i) (λ r. and_true _) (λ r. refl) (reel_kept row) (λ id. refl) (λ b c. puts_reel i b c row) g a c did)
