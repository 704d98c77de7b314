-- Whether a query finds a row.
use Rattle.desk_types.proofs.Common.{[], ◌==◌, ◌∙◌, ◌∷◌, ◌≡◌, ap, Bool, filter, History, IsPermutation}
use Rattle.desk_types.proofs.Common.{length, length-map, length_permutation, List, list_all, map, Name, not}
use Rattle.desk_types.proofs.Common.{refl, subst, ℕ}
use Rattle.line_tables.proofs.Common.{column, columns, Database, Ghosts, has_text, Held, holds, output}
use Rattle.line_tables.proofs.Common.{overlay, Row, rows_in, Selects, state, Table, Term, Text, tree_in}
use Rattle.line_tables.proofs.FindTexts.{IsSelectBy, rows_from}
use Rattle.line_tables.proofs.Finds.{and_true, answer_by, overlay_none, rows_answer, shown_is, shown_of}
use Rattle.line_traces.proofs.StartedAndReceived.{board-named, is_any, lot-named}
use Rattle.line_traces.proofs.Texts.{select_board, select_board_is, select_reels, select_reels_is}
use Rattle.line_traces.specs.Committed.{FindsOfList, HoldsList}
use Rattle.line_traces.specs.Pieces.{is_board, is_lot}
use Rattle.line_tables.specs.Line as line

any-shown : (show : Row → Row) (passing rows : List Row) → IsPermutation (map show passing) rows → (b : Bool) → b ≡ (length rows == 0) → not b ≡ is_any passing
any-shown show passing rows same b is = ap not is ∙ ap (λ n. not (n == 0)) (length_permutation _ _ same ∙ length-map passing show)

module _ {S : Type 0} (g : Ghosts S) (old : Held S) (rows : List Row) (b : Bool) where
  asks : (sql : List ℕ) (table : Table) (test project : List Term) (names : List (List ℕ)) → IsSelectBy sql (λ schema. rows_from (tree_in table schema) test project) names → (params : Row) (has : Row → Bool) (show : Row → Row)
      → ((r : Row) → list_all (holds (params ∷ r ∷ [])) test ≡ has (columns table r)) → ((r : Row) → (output (rows_from 0 test project) (params ∷ r ∷ [])).1 ≡ show (columns table r))
      → (of : History → Bool) → ((db : Database) (H : History) → HoldsList db H → is_any (filter has (rows_in table db)) ≡ of H)
      → Selects g sql params old rows → b ≡ (length rows == 0) → FindsOfList of (state g old) (not b)
  asks sql table test project names text params has show passes out of named h is = record {
    was_open = h.was_open;
    are = λ schema H held.
        let db = (state g old).committed in
        let at = tree_in table db.schema in
        let q = rows_from at test project in
        any-shown show (filter has (rows_in table db)) rows
        (subst (λ l. IsPermutation l rows) (ap (shown_of q params) (overlay_none db.trees at) ∙ shown_is q params (columns table) show has passes out (db.trees at))
        (rows_answer at test project (overlay db.trees []) params rows (answer_by g sql (λ schema. rows_from (tree_in table schema) test project) names text params old rows h schema))) b is
        ∙ named db H held;
  }

  pub asks-board : (board : Name) → Selects g select_board (Text board ∷ []) old rows → b ≡ (length rows == 0) → FindsOfList (λ H. is_board H board) (state g old) (not b)
  asks-board board =
      asks select_board line.board _ _ _ select_board_is (Text board ∷ []) (has_text 0 board) (λ r. column r 0 ∷ []) (λ r. and_true _) (λ r. refl) (λ H. is_board H board) (λ db H held. board-named db H held board)

  pub asks-lot : (lot : Name) → Selects g select_reels (Text lot ∷ []) old rows → b ≡ (length rows == 0) → FindsOfList (λ H. is_lot H lot) (state g old) (not b)
  asks-lot lot =
      asks select_reels line.reel _ _ _ select_reels_is (Text lot ∷ []) (has_text 2 lot) (λ r. column r 0 ∷ []) (λ r. and_true _) (λ r. refl) (λ H. is_lot H lot) (λ db H held. lot-named db H held lot)
