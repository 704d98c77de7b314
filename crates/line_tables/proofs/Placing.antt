-- The effect of the statements on `placement`: they insert rows with their own rowids, one or eight at once.
use Rattle.desk_types.proofs.Common.{[], ◌&&◌, ◌++◌, ◌+◌, ◌<◌, ◌==◌, ◌∙◌, ◌∷◌, ◌≡◌, ◌≤◌, and_from, and_parts}
use Rattle.desk_types.proofs.Common.{ap, ap₂, arith, flat_map, get_or, if◌then◌else◌, IsPermutation}
use Rattle.desk_types.proofs.Common.{IsPermutation-map, IsTrue, length, length-map, length-take-le, List, map}
use Rattle.desk_types.proofs.Common.{map-append, map_more, Option, pos, refl, Some, subst, sym, take, true, ℕ}
use Rattle.line_tables.proofs.Common.{accepted_columns, after_edits, AreNew, ArePlacing, AreRows, cast_row}
use Rattle.line_tables.proofs.Common.{Chosen, columns, Edit, flag, has_piece, Holds, Layout, placement}
use Rattle.line_tables.proofs.Common.{placement_columns, put_all, put_row, Row, row_edits, RowEdit, Runs}
use Rattle.line_tables.proofs.Common.{schema_of, State, Two, version_columns, with_rowid, Writes}
use Rattle.desk_types.specs.{declared.edit.RowEdit.TheVariants.PutPlacement}
use Rattle.desk_types.specs.{declared.row.PlacementRow.PlacementRow}
use Rattle.line_tables.proofs.{Altering.all_apart_but, Altering.IsElsewhere, Altering.other_tree}
use Rattle.line_tables.proofs.{Altering.others_hold, Beside.others_behind, Beside.quiet, Inserts.insert_does}
use Rattle.line_tables.proofs.{Inserts.Inserted, Keyed.added, Keyed.one_piece, Keyed.own_int}
use Rattle.line_tables.proofs.{Keyed.same_piece, Keyed.tells_piece, Puts.cast_int, Puts.put_permutes}
use Rattle.line_tables.proofs.{RowTexts.insert_placement_is, RowTexts.insert_placements_is}
use Rattle.line_tables.proofs.{RowTexts.placement_terms, RowTexts.placements_terms}
use Rattle.line_tables.specs.{Edit.EditRow, Placing.placement_edit, Placing.placement_kept}
use Rattle.line_tables.specs.{Rowids.placement_id, Rows.Tables, Rows.with_edit}
use Rattle.line_tables.specs.{declared.pieces.TheConstants.INSERT_PLACEMENT}
use Rattle.line_tables.specs.{declared.pieces.TheConstants.INSERT_PLACEMENTS}
use Rattle.sqlite_rules.specs.Edit.{are_fresh, numbered}
use Rattle.std.proofs.{lemmas.Bool.not-true, lemmas.List.flat_map_more}

placement_cast : (row : PlacementRow) → cast_row placement (placement_kept row) ≡ placement_kept row
placement_cast row = rw (cast_int (pos (placement_id row.number row.place)), cast_int (pos row.number), cast_int (pos row.place), cast_int (flag row.overdue)) refl

all_kept : (rows : List PlacementRow) (db : List Row) → numbered Chosen db (map (λ s. cast_row placement s) (map placement_kept rows)) ≡ map placement_kept rows
all_kept [] db = refl
all_kept (row ∷ rows) db =
    ap (λ r. with_rowid Chosen db r ∷ numbered Chosen (put_row (with_rowid Chosen db r) db) (map (λ s. cast_row placement s) (map placement_kept rows))) (placement_cast row)
    ∙ ap (λ l. placement_kept row ∷ l) (all_kept rows (put_row (placement_kept row) db))

-- The map with the rows at their keys.
abbrev with_pieces : List PlacementRow → (ℕ → ℕ → Option PlacementRow) → ℕ → ℕ → Option PlacementRow
with_pieces [] f = f
with_pieces (row ∷ rows) f = with_pieces rows (λ n k. if row.number == n && (row.place == k) then Some row else f n k)

edits_of : (rows : List PlacementRow) (t : Tables) → after_edits (map placement_edit rows) t ≡ record t { state = record t.state { placements = with_pieces rows t.state.placements } }
edits_of [] t = refl
edits_of (row ∷ rows) t = edits_of rows (with_edit t (placement_edit row))

abbrev HasPieces : List Row → (ℕ → ℕ → Option PlacementRow) → Type 0
HasPieces db f = AreRows has_piece (λ _ row. placement_columns row) (map (columns placement) db) (λ piece. f piece.0 piece.1)

pieces_in : (rows : List PlacementRow) (db : List Row) (t : Tables) → HasPieces db t.state.placements → are_fresh db (map placement_kept rows) ≡ true → AreNew (map placement_edit rows) t
    → HasPieces (put_all db (map placement_kept rows)) (with_pieces rows t.state.placements)
pieces_in [] db t was fresh new = was
pieces_in (row ∷ rows) db t was fresh new =
    let free = and_parts _ _ fresh in
    let one = IsPermutation-map (columns placement) _ _ (put_permutes db (placement_kept row) (not-true _ free.0)) in
    pieces_in rows (put_row (placement_kept row) db) (with_edit t (placement_edit row))
    (added has_piece (λ _ row. placement_columns row) one_piece same_piece tells_piece (row.number, row.place) row _ _ (λ piece. t.state.placements piece.0 piece.1) _ new.0 (and_from _ _ (own_int row.number) (own_int row.place)) (λ l. refl) one was) free.1 new.1

puts_pieces : (rows : List PlacementRow) (a c : State) → IsTrue a.is_open → ((indexed : Layout) → a.now.schema ≡ schema_of Two indexed → Inserted (schema_of Two indexed) placement (map placement_kept rows) a c) → Writes (map placement_edit rows) a c
puts_pieces rows a c was_open did = record {
  was_open = was_open;
  done = λ t was new.
      let i = was.indexed in
      let went = did i was.schema in
      let db = a.now.trees 17 in
      let others = went.step.tables in
      let beside : IsElsewhere i 17 a.now c.now = record { was = was.schema; is = went.same; others = others } in
      let k = others_hold i 17 a.now c.now t.state beside was.state in
      let fresh : are_fresh db (map placement_kept rows) ≡ true = subst (λ l. are_fresh db l ≡ true) (all_kept rows db) went.step.fresh in
      let put : c.now.trees 17 ≡ put_all db (map placement_kept rows) = went.step.rows ∙ ap (put_all db) (all_kept rows db) in (
        went.same ∙ sym was.schema,
        subst (Holds c.now) (sym (edits_of rows t)) (record {
          indexed = i;
          schema = went.same;
          version = ap (map version_columns) (others.0 (other_tree 0 17 refl)) ∙ was.version;
          accepted = subst (λ l. IsPermutation (map accepted_columns l) t.accepted) (sym (others.1.0 (other_tree 1 17 refl))) was.accepted;
          state = record {
            parts = k.parts refl;
            alternates = k.alternates refl;
            sheets = k.sheets refl;
            selected = k.selected refl;
            reels = k.reels refl;
            mounts = k.mounts refl;
            boards = k.boards refl;
            placements = subst (λ l. HasPieces l (with_pieces rows t.state.placements)) (sym put) (pieces_in rows db t was.state.placements fresh new);
            found = k.found refl;
          };
          apart = all_apart_but i 17 a.now c.now beside refl was.apart;
        }),
      );
  sound = λ t was new. (did was.indexed was.schema).sound;
  others = others_behind 17 a.now c.now (λ layout has. (refl, (did layout has).same, (did layout has).step.tables));
}

pub placement_put : (row : PlacementRow) (a c : State) → Runs INSERT_PLACEMENT.now (placement_kept row) a c → Writes (placement_edit row ∷ []) a c
placement_put row a c ran =
    puts_pieces (row ∷ []) a c ran.shown.was_open
    (λ i has. insert_does INSERT_PLACEMENT.now (placement_kept row) a c (schema_of Two i) has 9 placement placement_terms 9 refl refl refl (insert_placement_is i).0 (insert_placement_is i).1 ran.count ran.executed (quiet i 17 refl []))

eight_in : (rows : List PlacementRow) (a c : State) → length rows ≡ 8 → Runs INSERT_PLACEMENTS.now (flat_map placement_kept rows) a c → (i : Layout) → a.now.schema ≡ schema_of Two i → Inserted (schema_of Two i) placement (map placement_kept rows) a c
eight_in (p ∷ q ∷ r ∷ s ∷ t ∷ u ∷ v ∷ w ∷ []) a c eight ran i has =
    insert_does INSERT_PLACEMENTS.now (flat_map placement_kept (p ∷ q ∷ r ∷ s ∷ t ∷ u ∷ v ∷ w ∷ [])) a c (schema_of Two i) has 9 placement placements_terms 9 refl refl refl (insert_placements_is i).0 (insert_placements_is i).1 ran.count ran.executed (quiet i 17 refl [])
eight_in [] a c eight ran i has = absurd (omega (arith, eight))
eight_in (p ∷ []) a c eight ran i has = absurd (omega (arith, eight))
eight_in (p ∷ q ∷ []) a c eight ran i has = absurd (omega (arith, eight))
eight_in (p ∷ q ∷ r ∷ []) a c eight ran i has = absurd (omega (arith, eight))
eight_in (p ∷ q ∷ r ∷ s ∷ []) a c eight ran i has = absurd (omega (arith, eight))
eight_in (p ∷ q ∷ r ∷ s ∷ t ∷ []) a c eight ran i has = absurd (omega (arith, eight))
eight_in (p ∷ q ∷ r ∷ s ∷ t ∷ u ∷ []) a c eight ran i has = absurd (omega (arith, eight))
eight_in (p ∷ q ∷ r ∷ s ∷ t ∷ u ∷ v ∷ []) a c eight ran i has = absurd (omega (arith, eight))
eight_in (p ∷ q ∷ r ∷ s ∷ t ∷ u ∷ v ∷ w ∷ x ∷ more) a c eight ran i has = absurd (omega (arith, eight))

pub eight_put : (rows : List PlacementRow) (a c : State) → length rows ≡ 8 → Runs INSERT_PLACEMENTS.now (flat_map placement_kept rows) a c → Writes (map placement_edit rows) a c
eight_put rows a c eight ran = puts_pieces rows a c ran.shown.was_open (eight_in rows a c eight ran)

-- ---- the values of edits

pub placing_more : (edits : List RowEdit) (i : ℕ) (edit : RowEdit) (row : PlacementRow) (values : Row) → i < length edits → edit ≡ get_or edits i edit → edit ≡ PutPlacement row → ArePlacing (row_edits (take i edits)) values → ArePlacing (row_edits (take (i + 1) edits)) (values ++ placement_kept row)
placing_more edits i edit row values inside item is was = (
  was.0 ++ row ∷ [],
  map_more EditRow edits i edit inside ∙ ap₂ (λ l e. l ++ EditRow e ∷ []) was.1 (sym item ∙ is) ∙ sym (map-append placement_edit was.0 (row ∷ [])),
  ap (λ v. v ++ placement_kept row) was.2 ∙ flat_map_more placement_kept [] was.0 row,
)

-- Eight edits that put placements are made as their values are put in.
pub eight_first : (edits : List RowEdit) (values : Row) (a c : State) → 8 ≤ length edits → ArePlacing (row_edits (take 8 edits)) values → ((rows : List PlacementRow) → length rows ≡ 8 → values ≡ flat_map placement_kept rows → Writes (map placement_edit rows) a c) → Writes (row_edits (take 8 edits)) a c
eight_first edits values a c long are put =
    let eight : length are.0 ≡ 8 = sym (length-map are.0 placement_edit) ∙ ap length (sym are.1) ∙ length-map (take 8 edits) EditRow ∙ length-take-le 8 edits long in
    subst (λ l. Writes l a c) (sym are.1) (put are.0 eight are.2)
