-- The meaning of the texts.
use Rattle.desk_types.proofs.Common.{[], ◌∷◌, codes, false, inl, List, negsuc, None, pos, refl, true, ℕ}
use Rattle.line_tables.proofs.Common.{ascending, Binary, col, Compare, end, Eq, everything, inner, Int, lit}
use Rattle.line_tables.proofs.Common.{op2, Query, Term, understood}
use Rattle.line_tables.proofs.FindTexts.{IsSelect, rows_from}

-- ---- the pieces that pass a test, with their reels and their entries

-- The reel and the entry of a piece, and tests.
abbrev pub pieces_query : List Term → Query
pieces_query tests = record {
  from = inner 11 (inner 17 (inner 1 end));
  filter = op2 (Compare Eq Binary) (col 1 1) (col 2 7) ∷ op2 (Compare Eq Binary) (col 3 0) (col 2 1) ∷ tests;
  group = None;
  project = col 2 1 ∷ col 2 2 ∷ col 2 3 ∷ col 2 4 ∷ col 1 2 ∷ col 1 3 ∷ col 2 7 ∷ col 2 5 ∷ col 2 6 ∷ col 3 5 ∷ col 2 8 ∷ [];
  distinct = false;
  collations = [];
  order = (col 2 1, ascending Binary) ∷ (col 2 2, ascending Binary) ∷ [];
  limit = lit (Int (negsuc 0));
  offset = lit (Int (pos 0));
}

abbrev pub pieces_names : List (List ℕ)
pieces_names =
    codes "number" ∷ codes "place" ∷ codes "board" ∷ codes "designator" ∷ codes "part" ∷ codes "lot" ∷ codes "reel" ∷ codes "machine" ∷ codes "slot" ∷ codes "effective"
    ∷ codes "overdue" ∷ []

abbrev pub select_on : List ℕ
select_on = codes "SELECT p.number, p.place, p.board, p.designator, r.part, r.lot, p.reel, p.machine, p.slot, a.effective, p.overdue FROM reel r JOIN placement p ON r.reel = p.reel JOIN accepted a ON a.number = p.number WHERE p.board = ?1 ORDER BY p.number, p.place"

abbrev pub on_board : Term
on_board = op2 (Compare Eq Binary) (col 2 3) (col 0 0)

pub select_on_is : IsSelect select_on (pieces_query (on_board ∷ [])) pieces_names
unfolding understood everything
select_on_is rules indexed = inl (refl, refl, (refl, refl))

abbrev pub select_of_lot : List ℕ
select_of_lot = codes "SELECT p.number, p.place, p.board, p.designator, r.part, r.lot, p.reel, p.machine, p.slot, a.effective, p.overdue FROM reel r JOIN placement p ON r.reel = p.reel JOIN accepted a ON a.number = p.number WHERE r.lot = ?1 ORDER BY p.number, p.place"

abbrev pub of_lot : Term
of_lot = op2 (Compare Eq Binary) (col 1 3) (col 0 0)

pub select_of_lot_is : IsSelect select_of_lot (pieces_query (of_lot ∷ [])) pieces_names
unfolding understood everything
select_of_lot_is rules indexed = inl (refl, refl, (refl, refl))

abbrev pub select_overdue : List ℕ
select_overdue = codes "SELECT p.number, p.place, p.board, p.designator, r.part, r.lot, p.reel, p.machine, p.slot, a.effective, p.overdue FROM reel r JOIN placement p ON r.reel = p.reel JOIN accepted a ON a.number = p.number WHERE p.overdue = 1 ORDER BY p.number, p.place"

-- The floor life of its reel was used up.
abbrev pub is_overdue : Term
is_overdue = op2 (Compare Eq Binary) (col 2 8) (lit (Int (pos 1)))

pub select_overdue_is : IsSelect select_overdue (pieces_query (is_overdue ∷ [])) pieces_names
unfolding understood everything
select_overdue_is rules indexed = inl (refl, refl, (refl, refl))

abbrev pub select_placed : List ℕ
select_placed = codes "SELECT p.number, p.place, p.board, p.designator, r.part, r.lot, p.reel, p.machine, p.slot, a.effective, p.overdue FROM reel r JOIN placement p ON r.reel = p.reel JOIN accepted a ON a.number = p.number ORDER BY p.number, p.place"

pub select_placed_is : IsSelect select_placed (pieces_query []) pieces_names
unfolding understood everything
select_placed_is rules indexed = inl (refl, refl, (refl, refl))

-- ---- names

abbrev pub select_board : List ℕ
select_board = codes "SELECT board FROM board WHERE board = ?1"

abbrev pub board_query : Query
board_query = rows_from 15 (op2 (Compare Eq Binary) (col 1 1) (col 0 0) ∷ []) (col 1 1 ∷ [])

pub select_board_is : IsSelect select_board board_query (codes "board" ∷ [])
unfolding understood everything
select_board_is rules indexed = inl (refl, refl, (refl, refl))

abbrev pub select_reels : List ℕ
select_reels = codes "SELECT reel FROM reel WHERE lot = ?1"

abbrev pub reels_query : Query
reels_query = rows_from 11 (op2 (Compare Eq Binary) (col 1 3) (col 0 0) ∷ []) (col 1 1 ∷ [])

pub select_reels_is : IsSelect select_reels reels_query (codes "reel" ∷ [])
unfolding understood everything
select_reels_is rules indexed = inl (refl, refl, (refl, refl))

abbrev pub select_names : List ℕ
select_names = codes "SELECT DISTINCT p.board FROM reel r JOIN placement p ON r.reel = p.reel WHERE r.lot = ?1 ORDER BY p.board"

-- The boards of the pieces of a lot, each once.
abbrev pub names_query : Query
names_query = record {
  from = inner 11 (inner 17 end);
  filter = op2 (Compare Eq Binary) (col 1 1) (col 2 7) ∷ of_lot ∷ [];
  group = None;
  project = col 2 3 ∷ [];
  distinct = true;
  collations = Binary ∷ [];
  order = (col 2 3, ascending Binary) ∷ [];
  limit = lit (Int (negsuc 0));
  offset = lit (Int (pos 0));
}

pub select_names_is : IsSelect select_names names_query (codes "board" ∷ [])
unfolding understood everything
select_names_is rules indexed = inl (refl, refl, (refl, refl))
