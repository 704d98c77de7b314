-- The result of the query for the boards of a lot.
use Rattle.desk_types.proofs.Common.{[], ◌&&◌, ◌∙◌, ◌∷◌, ◌≡◌, ap, boards_of, Bool, by_name, filter, flat_map}
use Rattle.desk_types.proofs.Common.{History, if◌then◌else◌, IsPermutation, IsPermutation-sym}
use Rattle.desk_types.proofs.Common.{IsPermutation-trans, IsStrictlySortedBy, List, list_all, map, Name}
use Rattle.desk_types.proofs.Common.{placements_of, refl, same, subst, sym}
use Rattle.desk_laws.proofs.Common.{Placement}
use Rattle.line_tables.proofs.Common.{all_weaker, column, columns, Database, flat_map-map, Ghosts, has_text}
use Rattle.line_tables.proofs.Common.{Held, holds, IsAnswer, IsAscending, map-map, Output, output, output_cmp}
use Rattle.line_tables.proofs.Common.{output_cmp_total, overlay, reel_columns, Row, rows_in, Selects, state}
use Rattle.line_tables.proofs.Common.{Text}
use Rattle.desk_laws.proofs.NameSets.{set-ordered}
use Rattle.line_tables.proofs.Finds.{and_true, answer_of}
use Rattle.line_traces.proofs.Columns.{equal-text}
use Rattle.line_traces.proofs.DistinctNames.{by-shown, kept-set, shown_name}
use Rattle.line_traces.proofs.FoundPieces.{is_reel}
use Rattle.line_traces.proofs.Joins.{found-of, map-pair, pair-one, paired, pairing, swapped}
use Rattle.line_traces.proofs.PlacedColumns.{IsKnown, piece_row, pieces-known, pieces-listed}
use Rattle.line_traces.proofs.Texts.{names_query, select_names, select_names_is}
use Rattle.line_traces.specs.Committed.{FindsOfList, HoldsList, name_row}
use Rattle.sqlite_keyed.proofs.ListLemmas.{ascending-map, ascending_weaker}
use Rattle.sqlite_keyed.proofs.SortLemmas.{sorted_unique}
use Rattle.sqlite_trees.proofs.ListLemmas.{IsPermutation-flat_map}
use Rattle.std.proofs.Common.{Less}
use Rattle.line_tables.specs.Line as line

in-order : (names : List Name) → IsStrictlySortedBy by_name names → IsAscending (λ a b. by_name a b ≡ Less) names
unfolding IsStrictlySortedBy
in-order [] sorted = tt
in-order (n ∷ names) (above, sorted) = (above, in-order names sorted)

module _ (lot : Name) where
  -- The reel is of the lot.
  abbrev is_its : Row → Row → Bool
  is_its reel piece = has_text 2 lot reel

  -- The board, both as sort key and as shown value.
  abbrev shown_board : Row → Row → Output
  shown_board reel piece = (column piece 2 ∷ [], column piece 2 ∷ [])

  -- The boards of the pieces of the lot.
  abbrev names_of : History → List Name
  names_of H = map (λ (p : Placement). p.board) (filter (λ p. same p.lot lot) (placements_of H))

  all-shown : (db : Database) (rows : List Row) (a : IsAnswer names_query (overlay db.trees []) (Text lot ∷ []) rows)
      → map (output names_query) a.staged ≡ pairing is_reel is_its shown_board (rows_in line.reel db) (rows_in line.placement db)
  all-shown db rows a =
      ap (map (output names_query)) a.grouped
      ∙ map-pair is_reel is_its shown_board (output names_query) (λ r p. list_all (holds ((Text lot ∷ []) ∷ r ∷ p ∷ [])) names_query.filter) (λ r p. (Text lot ∷ []) ∷ r ∷ p ∷ [])
      (columns line.reel) (columns line.placement) (λ r p. ap (λ b. is_reel (columns line.placement p) (columns line.reel r) && b) (and_true _)) (λ r p. refl) (db.trees 11) (db.trees 17)

  one-shown : (db : Database) (p : Placement) → IsKnown db p
      → flat_map (λ r. paired is_reel is_its shown_board r (piece_row p)) (rows_in line.reel db) ≡ (if same p.lot lot then shown_name p.board ∷ [] else [])
  one-shown db p known =
      pair-one is_reel is_its shown_board (rows_in line.reel db) (piece_row p) (reel_columns known.reel) known.found
      ∙ ap (λ b. if b then shown_name p.board ∷ [] else []) (equal-text known.reel.lot lot ∙ ap (λ n. same n lot) known.lot)

  all-listed : (db : Database) (H : History) → HoldsList db H → IsPermutation (pairing is_reel is_its shown_board (rows_in line.reel db) (rows_in line.placement db)) (map shown_name (names_of H))
  all-listed db H held =
      let by_row : Row → List Output = λ p. flat_map (λ r. paired is_reel is_its shown_board r p) (rows_in line.reel db) in
      let found : flat_map by_row (map piece_row (placements_of H)) ≡ map shown_name (names_of H) =
      flat_map-map by_row piece_row (placements_of H)
      ∙ found-of (λ p. by_row (piece_row p)) (λ p. same p.lot lot) (λ (p : Placement). shown_name p.board) (placements_of H) (all_weaker (IsKnown db) _ (one-shown db) (placements_of H) (pieces-known db H held))
      ∙ sym (map-map shown_name (λ (p : Placement). p.board) (filter (λ p. same p.lot lot) (placements_of H))) in
      subst (IsPermutation _) found (
      IsPermutation-trans _ _ _ (swapped (paired is_reel is_its shown_board) (rows_in line.reel db) (rows_in line.placement db)) (IsPermutation-flat_map by_row _ _ (pieces-listed db H held)))

  names-answer : (db : Database) (H : History) → HoldsList db H → (rows : List Row) → IsAnswer names_query (overlay db.trees []) (Text lot ∷ []) rows → rows ≡ map name_row (boards_of H lot)
  names-answer db H held rows a =
      let kept : IsPermutation a.kept (map shown_name (boards_of H lot)) =
      kept-set (names_of H) (map (output names_query) a.staged) a.kept (subst (λ l. IsPermutation l (map shown_name (names_of H))) (sym (all-shown db rows a)) (all-listed db H held)) a.distinct in
      let up : IsAscending (λ x y. output_cmp names_query x y ≡ Less) (map shown_name (boards_of H lot)) =
      ascending-map (λ x y. output_cmp names_query x y ≡ Less) shown_name (boards_of H lot) (ascending_weaker (λ a b. by_name a b ≡ Less) _ (λ a b less. by-shown a b ∙ less) (boards_of H lot) (in-order (boards_of H lot) (set-ordered (names_of H)))) in
      let ordered : a.ordered ≡ map shown_name (boards_of H lot) =
      sorted_unique (output_cmp names_query) (output_cmp_total names_query) _ a.ordered up (IsPermutation-trans _ _ _ (IsPermutation-sym _ _ kept) a.same) a.sorted in
      a.shown ∙ ap (map (λ (o : Output). o.1)) ordered ∙ map-map (λ (o : Output). o.1) shown_name (boards_of H lot)

  pub finds-names : {S : Type 0} (g : Ghosts S) (old : Held S) (rows : List Row) → Selects g select_names (Text lot ∷ []) old rows → FindsOfList (λ H. map name_row (boards_of H lot)) (state g old) rows
  finds-names g old rows h = record {
    was_open = h.was_open;
    are = λ schema H held. names-answer (state g old).committed H held rows (answer_of g select_names names_query _ select_names_is (Text lot ∷ []) old rows h schema);
  }
