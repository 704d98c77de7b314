-- Entries, as queries find them.
use Rattle.desk_types.proofs.Common.{[], ◌++◌, ◌+◌, ◌<◌, ◌==◌, ◌≤◌, ◌∙◌, ◌∷◌, ◌≡◌, ap, ap₂, arith, Bool, cases_Bool, codes, eq-eqb, eqb-true, false, filter, find, flat_map, IfOk, if◌then◌else◌, inl, inr, is_eq, IsPermutation, IsTrue, length, List, list_all, map, nat_tests, None, Option, option_map, option_map_or, pos, refl, Result, slice_get, Some, subst, subst₂, sym, true, true≢false, ℕ, Err, Ok}
use Rattle.line_tables.proofs.Common.{Binary, col, column, Compare, Database, Eq, everything, Ghosts, has_number, Held, holds, Int, IsAnswer, Null, only, op2, output, overlay, Query, Row, Schema, Selects, state, Table, Term, understood, value_cmp, value_cmp-Int}
use Rattle.line_tables.proofs.{FindTexts.IsSelectIn, FindTexts.rows_from, Finds.and_true, Finds.one_order, Finds.overlay_none, Finds.rows_answer, Finds.shown_is, Finds.shown_of, Finds.whole, Keyed.number_test}
use Rattle.line_book_store.specs.{Book.book_in, Book.book_schema, Book.book_tree, Book.entry_columns, Book.GoOn, Book.HoldsBook, Book.IndexedShelf, Book.PlainShelf, Book.Shelf, Book.shown_columns, Reading.entry_numbered, Reading.entry_row, Reading.ReadsBook, Reading.ReadsShelf, Reading.window}
use Rattle.line_book.specs.declared.row.BookRow.{BookRow}
use Rattle.line_book_store.specs.declared.reading.TheConstants.{SELECT_COUNT, SELECT_ENTRY, SELECT_WINDOW}
use Rattle.sqlite.proofs.Callers.{reads_as}
use Rattle.sqlite.specs.{Command.TheVariants.Select}
use Rattle.desk_types.proofs.Common.{IsPermutation-sym, IsPermutation-trans}
use Rattle.line_tables.proofs.Common.{IsPermutation-filter}
use Rattle.line_tables.proofs.Common.{Error}
use Rattle.desk_types.proofs.Common.{◌&&◌, and-false, length-map, length_permutation, nat_le, nat_lt, ℤ}
use Rattle.line_tables.proofs.Common.{binary, is_true, State}
use Rattle.line_tables.proofs.Keyed.{truth_told}
use Rattle.sqlite_sql.specs.declared.ops.CompareOp.TheVariants.{Gt, Le}
use Rattle.std.specs.Ordering.{int_cmp, is_gt, is_le}

abbrev entry_places : List Term
entry_places = col 1 0 ∷ col 1 2 ∷ col 1 3 ∷ col 1 4 ∷ col 1 5 ∷ col 1 6 ∷ col 1 7 ∷ col 1 8 ∷ col 1 9 ∷ col 1 10 ∷ col 1 11 ∷ col 1 12 ∷ []

abbrev entry_test : List Term
entry_test = op2 (Compare Eq Binary) (col 1 0) (col 0 0) ∷ []

abbrev entry_query : ℕ → Query
entry_query tree = rows_from tree entry_test entry_places

abbrev entry_names : List (List ℕ)
entry_names = codes "n" ∷ codes "after" ∷ codes "kind" ∷ codes "source" ∷ codes "uid" ∷ codes "machine" ∷ codes "slot" ∷ codes "board" ∷ codes "reel" ∷ codes "word" ∷ codes "of" ∷ codes "told" ∷ []

select_entry_is : (shelf : Shelf) → IsSelectIn (book_schema shelf) SELECT_ENTRY.now (entry_query (book_tree shelf)) entry_names
unfolding understood everything
select_entry_is (IndexedShelf more) = (refl, refl, (refl, refl))
select_entry_is (PlainShelf more) = (refl, refl, (refl, refl))

told : (a b : ℕ) → is_eq (value_cmp (Int (pos a)) (Int (pos b))) ≡ (a == b)
told a b = ap is_eq (value_cmp-Int (pos a) (pos b)) ∙ grind (arith, nat_tests)

pub numbers_told : (n : ℕ) (e : BookRow) → has_number n (entry_columns e) ≡ (e.number == n)
numbers_told n e = number_test e.number n ∙ told e.number n

pub past : (k n : ℕ) (entries : List BookRow) → GoOn k entries → n ≤ k → filter (has_number n) (map entry_columns entries) ≡ []
past k n [] on low = refl
past k n (e ∷ es) on low =
    let apart : (e.number == n) ≡ false = let is = on.0 in grind (arith, nat_tests) in
    rw (numbers_told n e ∙ apart) (past (k + 1) n es on.1 (omega (arith, low)))

one_found : (k n : ℕ) (entries : List BookRow) → GoOn k entries → filter (has_number n) (map entry_columns entries) ≡ only (entry_row (entry_numbered n entries))
one_found k n [] on = refl
one_found k n (e ∷ es) on = elim (cases_Bool (e.number == n)) [
  | inl is ↦
      let same = eqb-true e.number n is in
      rw (numbers_told n e ∙ is, is) (ap (λ l. entry_columns e ∷ l) (past (k + 1) n es on.1 (omega (arith, on.0, same))))
  | inr differ ↦ rw (numbers_told n e ∙ differ, differ) (one_found (k + 1) n es on.1)
]

only_same : (a b : Option Row) → only a ≡ only b → a ≡ b
only_same None None h = refl
only_same (Some a) (Some b) h = cc
only_same None (Some b) h = absurd (cc)
only_same (Some a) None h = absurd (cc)

-- The answer of a query over the book.
pub answer : {S : Type 0} (g : Ghosts S) (sql : List ℕ) (q : Query) (names : List (List ℕ)) (params : Row) (old : Held S) (rows : List Row) → Selects g sql params old rows → (shelf : Shelf) → (state g old).committed.schema ≡ book_schema shelf → IsSelectIn (book_schema shelf) sql q names
    → IsAnswer q (overlay (state g old).committed.trees []) params rows
answer g sql q names params old rows h shelf has is =
    let read = reads_as sql params (state g (record old { in_transaction = true })) (state g h.after) (book_schema shelf) (ap (λ (db : Database). db.schema) h.settled ∙ has) (Select (record { lets = []; body = q }) names) is.0 is.2 is.1 rows h.shown in
    subst (λ (db : Database). IsAnswer q (overlay db.trees []) params rows) h.settled (read.answer Null)

module _ {S : Type 0} (g : Ghosts S) (n : ℕ) (old : Held S) (rows : List Row) (h : Selects g SELECT_ENTRY.now (Int (pos n) ∷ []) old rows) where
  found_in : (shelf : Shelf) → (state g old).committed.schema ≡ book_schema shelf → IsPermutation (filter (has_number n) (book_in shelf (state g old).committed)) rows
  found_in shelf has =
      let at = book_tree shelf in
      subst (λ l. IsPermutation l rows) (ap (shown_of (entry_query at) (Int (pos n) ∷ [])) (overlay_none (state g old).committed.trees at) ∙ shown_is (entry_query at) (Int (pos n) ∷ []) shown_columns (λ r. r) (has_number n) (λ r. and_true _) (λ r. refl) ((state g old).committed.trees at) ∙ whole _)
      (rows_answer at entry_test entry_places (overlay (state g old).committed.trees []) (Int (pos n) ∷ []) rows (answer g SELECT_ENTRY.now (entry_query at) entry_names (Int (pos n) ∷ []) old rows h shelf has (select_entry_is shelf)))

  pub finds_row : (r : Result (Option Row) Error) → IfOk r (λ found. rows ≡ only found) → IfOk r (λ found. ReadsShelf (state g old) (λ rows. filter (has_number n) rows ≡ only found))
  finds_row (Err e) is = tt
  finds_row (Ok o) is = record { was_open = h.was_open; are = λ shelf has. one_order _ o (subst (IsPermutation (filter (has_number n) (book_in shelf (state g old).committed))) is (found_in shelf has)) }

-- The row with the number is that of the entry with it.
pub entry_there : (n : ℕ) (old : State) (o : Option Row) → ReadsShelf old (λ rows. filter (has_number n) rows ≡ only o) → ReadsBook old (λ entries. o ≡ entry_row (entry_numbered n entries))
entry_there n old o h = record {
  was_open = h.was_open;
  are = λ entries book.
      let same = subst (λ l. IsPermutation l (filter (has_number n) (map entry_columns entries))) (h.are book.shelf book.schema) (IsPermutation-filter (has_number n) _ _ book.rows) in
      let only_one = one_order _ o (IsPermutation-sym _ _ same) in
      sym (only_same (entry_row (entry_numbered n entries)) o (sym (one_found 0 n entries book.numbered) ∙ only_one));
}

pub entry_found : (n : ℕ) (old : State) (o : Option Row) (e : BookRow) → o ≡ Some (entry_columns e) → ReadsShelf old (λ rows. filter (has_number n) rows ≡ only o) → ReadsBook old (λ entries. entry_row (Some e) ≡ entry_row (entry_numbered n entries))
entry_found n old o e is h = let there = entry_there n old o h in record { was_open = there.was_open; are = λ entries book. sym is ∙ there.are entries book }

pub none_found : (n : ℕ) (old : State) (o : Option Row) → o ≡ None → ReadsShelf old (λ rows. filter (has_number n) rows ≡ only o) → ReadsBook old (λ entries. entry_row None ≡ entry_row (entry_numbered n entries))
none_found n old o is h = let there = entry_there n old o h in record { was_open = there.was_open; are = λ entries book. sym is ∙ there.are entries book }

-- ---- a window

abbrev window_test : List Term
window_test = op2 (Compare Gt Binary) (col 1 0) (col 0 0) ∷ op2 (Compare Le Binary) (col 1 0) (col 0 1) ∷ []

abbrev window_query : ℕ → Query
window_query tree = rows_from tree window_test entry_places

select_window_is : (shelf : Shelf) → IsSelectIn (book_schema shelf) SELECT_WINDOW.now (window_query (book_tree shelf)) entry_names
unfolding understood everything
select_window_is (IndexedShelf more) = (refl, refl, (refl, refl))
select_window_is (PlainShelf more) = (refl, refl, (refl, refl))

abbrev is_within : ℕ → ℕ → Row → Bool
is_within a b row = is_true (binary (Compare Gt Binary) (column row 0) (Int (pos a))) && is_true (binary (Compare Le Binary) (column row 0) (Int (pos b)))

abbrev is_numbered : ℕ → ℕ → BookRow → Bool
is_numbered a b e = nat_lt a e.number && nat_le e.number b

above_test : (a b : ℕ) → is_true (binary (Compare Gt Binary) (Int (pos a)) (Int (pos b))) ≡ is_gt (value_cmp (Int (pos a)) (Int (pos b)))
unfolding binary
above_test a b = truth_told _

up_to_test : (a b : ℕ) → is_true (binary (Compare Le Binary) (Int (pos a)) (Int (pos b))) ≡ is_le (value_cmp (Int (pos a)) (Int (pos b)))
unfolding binary
up_to_test a b = truth_told _

within_told : (a b : ℕ) (e : BookRow) → is_within a b (entry_columns e) ≡ is_numbered a b e
within_told a b e =
    let above : is_gt (int_cmp (pos e.number) (pos a)) ≡ nat_lt a e.number = grind (arith, nat_tests) in
    let up_to : is_le (int_cmp (pos e.number) (pos b)) ≡ nat_le e.number b = grind (arith, nat_tests) in
    ap₂ (λ x y. x && y) (above_test e.number a ∙ ap is_gt (value_cmp-Int (pos e.number) (pos a)) ∙ above) (up_to_test e.number b ∙ ap is_le (value_cmp-Int (pos e.number) (pos b)) ∙ up_to)

within_entries : (a b : ℕ) (entries : List BookRow) → filter (is_within a b) (map entry_columns entries) ≡ map entry_columns (filter (is_numbered a b) entries)
within_entries a b [] = refl
within_entries a b (e ∷ es) = go (is_within a b (entry_columns e)) (is_numbered a b e) (within_told a b e) (within_entries a b es)
  where
    go : (c d : Bool) → c ≡ d → filter (is_within a b) (map entry_columns es) ≡ map entry_columns (filter (is_numbered a b) es)
        → (if c then entry_columns e ∷ filter (is_within a b) (map entry_columns es) else filter (is_within a b) (map entry_columns es)) ≡ map entry_columns (if d then e ∷ filter (is_numbered a b) es else filter (is_numbered a b) es)
    go true true is more = ap (λ l. entry_columns e ∷ l) more
    go false false is more = more
    go true false is more = absurd (true≢false is)
    go false true is more = absurd (true≢false (sym is))

none_above : (k a b : ℕ) (entries : List BookRow) → GoOn k entries → b ≤ k → filter (is_numbered a b) entries ≡ []
none_above k a b [] on high = refl
none_above k a b (e ∷ es) on high =
    let out : nat_le e.number b ≡ false = let is = on.0 in grind (arith, nat_tests) in
    rw (out, and-false (nat_lt a e.number)) (none_above (k + 1) a b es on.1 (omega (arith, high)))

go_on_within : (k a b : ℕ) (entries : List BookRow) → GoOn k entries → a ≤ k → GoOn k (filter (is_numbered a b) entries)
go_on_within k a b [] on low = tt
go_on_within k a b (e ∷ es) on low = elim (cases_Bool (nat_le e.number b)) [
  | inl fits ↦
      let above : nat_lt a e.number ≡ true = let is = on.0 in grind (arith, nat_tests) in
      rw (above, fits) (on.0, go_on_within (k + 1) a b es on.1 (omega (arith, low)))
  | inr over ↦
      let most : b ≤ k + 1 = let is = on.0 in grind (arith, nat_tests) in
      rw (over, and-false (nat_lt a e.number), none_above (k + 1) a b es on.1 most) tt
]

go_on_behind : (k a b : ℕ) (entries : List BookRow) → GoOn k entries → k ≤ a → GoOn a (filter (is_numbered a b) entries)
go_on_behind k a b [] on low = tt
go_on_behind k a b (e ∷ es) on low = elim (cases_Bool (nat_lt a e.number)) [
  | inl above ↦
      let same : k ≡ a = let is = on.0 in grind (arith, nat_tests) in
      subst (λ n. GoOn n (filter (is_numbered a b) (e ∷ es))) same (go_on_within k a b (e ∷ es) on (omega (arith, same)))
  | inr below ↦
      let most : k + 1 ≤ a = let is = on.0 in grind (arith, nat_tests) in
      rw below (go_on_behind (k + 1) a b es on.1 most)
]

-- Entries with the same numbers have the same rows if they are the same but for their order.
same_rows : (k : ℕ) (xs ys : List BookRow) → GoOn k xs → GoOn k ys → length xs ≡ length ys → ((n : ℕ) → filter (has_number n) (map entry_columns xs) ≡ filter (has_number n) (map entry_columns ys)) → map entry_columns xs ≡ map entry_columns ys
same_rows k [] [] on on' long same = refl
same_rows k [] (y ∷ ys) on on' long same = absurd (omega (arith, long))
same_rows k (x ∷ xs) [] on on' long same = absurd (omega (arith, long))
same_rows k (x ∷ xs) (y ∷ ys) on on' long same = ap₂ (λ r rs. r ∷ rs) head (same_rows (k + 1) xs ys on.1 on'.1 (omega (arith, long)) rest)
  where
    first : (e : BookRow) (es : List BookRow) → GoOn k (e ∷ es) → filter (has_number (k + 1)) (map entry_columns (e ∷ es)) ≡ entry_columns e ∷ []
    first e es on =
        let own : (e.number == k + 1) ≡ true = let is = on.0 in grind (arith, nat_tests) in
        rw (numbers_told (k + 1) e ∙ own) (ap (λ l. entry_columns e ∷ l) (past (k + 1) (k + 1) es on.1 (omega arith)))

    head : entry_columns x ≡ entry_columns y
    head = let both = sym (first x xs on) ∙ same (k + 1) ∙ first y ys on' in ap (λ (l : List Row). Rattle.std.proofs.Common.get_or l 0 []) both

    later : (n : ℕ) (e : BookRow) (es : List BookRow) → GoOn k (e ∷ es) → (n == k + 1) ≡ false → filter (has_number n) (map entry_columns (e ∷ es)) ≡ filter (has_number n) (map entry_columns es)
    later n e es on apart =
        let other : (e.number == n) ≡ false = let is = on.0 in grind (arith, nat_tests) in
        rw (numbers_told n e ∙ other) refl

    rest : (n : ℕ) → filter (has_number n) (map entry_columns xs) ≡ filter (has_number n) (map entry_columns ys)
    rest n = elim (cases_Bool (n == k + 1)) [
      | inl is ↦ let low : n ≤ k + 1 = let e = eqb-true n (k + 1) is in omega (arith, e) in past (k + 1) n xs on.1 low ∙ sym (past (k + 1) n ys on'.1 low)
      | inr apart ↦ sym (later n x xs on apart) ∙ same n ∙ later n y ys on' apart
    ]

each_found : (k n : ℕ) (xs ys : List BookRow) → GoOn k xs → GoOn k ys → IsPermutation (map entry_columns xs) (map entry_columns ys) → filter (has_number n) (map entry_columns xs) ≡ filter (has_number n) (map entry_columns ys)
each_found k n xs ys on on' same =
    let found = one_found k n ys on' in
    one_order _ (entry_row (entry_numbered n ys)) (subst (IsPermutation (filter (has_number n) (map entry_columns xs))) found (IsPermutation-filter (has_number n) _ _ same)) ∙ sym found

-- The tree of the table that stands first behind the desk's.
abbrev first_tree : Schema → ℕ
first_tree s = option_map_or (λ (t : Table). t.tree) (slice_get s.tables 11) 0

tree_first : (shelf : Shelf) → first_tree (book_schema shelf) ≡ book_tree shelf
tree_first (IndexedShelf more) = refl
tree_first (PlainShelf more) = refl

-- A database has one book.
pub one_book : (db : Database) (xs ys : List BookRow) → HoldsBook db xs → HoldsBook db ys
    → map entry_columns xs ≡ map entry_columns ys
one_book db xs ys p q =
    let tree : book_tree q.shelf ≡ book_tree p.shelf = sym (tree_first q.shelf)
    ∙ ap first_tree (sym q.schema ∙ p.schema) ∙ tree_first p.shelf in
    let other : IsPermutation (book_in p.shelf db) (map entry_columns ys) = subst
    (λ k. IsPermutation (map shown_columns (db.trees k)) (map entry_columns ys)) tree q.rows in
    let both = IsPermutation-trans _ _ _ (IsPermutation-sym _ _ p.rows) other in
    let of_xs = length-map xs entry_columns in
    let of_ys = length-map ys entry_columns in
    let long : length xs ≡ length ys = omega (arith, length_permutation _ _ both, of_xs, of_ys) in
    same_rows 0 xs ys p.numbered q.numbered long (λ n. each_found 0 n xs ys p.numbered q.numbered both)

module _ {S : Type 0} (g : Ghosts S) (a b : ℕ) (old : Held S) (rows : List Row) (h : Selects g SELECT_WINDOW.now (Int (pos a) ∷ Int (pos b) ∷ []) old rows) where
  abbrev ends : Row
  ends = Int (pos a) ∷ Int (pos b) ∷ []

  within_in : (shelf : Shelf) → (state g old).committed.schema ≡ book_schema shelf → IsPermutation (filter (is_within a b) (book_in shelf (state g old).committed)) rows
  within_in shelf has =
      let at = book_tree shelf in
      subst (λ l. IsPermutation l rows) (ap (shown_of (window_query at) ends) (overlay_none (state g old).committed.trees at) ∙ shown_is (window_query at) ends shown_columns (λ r. r) (is_within a b) (λ r. ap (λ c. is_true (binary (Compare Gt Binary) (column r 0) (Int (pos a))) && c) (and_true _)) (λ r. refl) ((state g old).committed.trees at) ∙ whole _)
      (rows_answer at window_test entry_places (overlay (state g old).committed.trees []) ends rows (answer g SELECT_WINDOW.now (window_query at) entry_names ends old rows h shelf has (select_window_is shelf)))

  finds_window : (found : List BookRow) → rows ≡ map entry_columns found → GoOn a found → ReadsBook (state g old) (λ entries. map entry_columns found ≡ map entry_columns (filter (is_numbered a b) entries))
  finds_window found are on = record {
    was_open = h.was_open;
    are = λ entries book.
        let W = filter (is_numbered a b) entries in
        let all : IsPermutation (map entry_columns W) (map entry_columns found) = subst₂ IsPermutation (within_entries a b entries) are (IsPermutation-trans _ _ _ (IsPermutation-sym _ _ (IsPermutation-filter (is_within a b) _ _ book.rows)) (within_in book.shelf book.schema)) in
        let on' = go_on_behind 0 a b entries book.numbered (omega arith) in
        let long : length found ≡ length W = omega (arith, length_permutation _ _ all, length-map W entry_columns, length-map found entry_columns) in
        same_rows a found W on on' long (λ n. each_found a n found W on on' (IsPermutation-sym _ _ all));
  }

pub window_found : {S : Type 0} (g : Ghosts S) (a b : ℕ) (p q : ℤ) (old : Held S) (rows : List Row) → p ≡ pos a → q ≡ pos b → Selects g SELECT_WINDOW.now (Int p ∷ Int q ∷ []) old rows → (found : List BookRow) → rows ≡ map entry_columns found → GoOn a found
    → ReadsBook (state g old) (λ entries. map entry_columns found ≡ map entry_columns (filter (is_numbered a b) entries))
window_found g a b p q old rows pa qb h = finds_window g a b old rows (subst₂ (λ x y. Selects g SELECT_WINDOW.now (Int x ∷ Int y ∷ []) old rows) pa qb h)
