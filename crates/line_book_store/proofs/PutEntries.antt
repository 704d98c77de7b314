-- The effect of noting an entry.
use Rattle.desk_types.proofs.Common.{[], ◌&&◌, ◌++◌, ◌+◌, ◌<◌, ◌==◌, ◌∙◌, ◌∷◌, ◌≡◌, ◌≢◌, ◌≤◌, AllByRecursion, and_from, and_parts, and-false, ap, ap₂, arith}
use Rattle.desk_types.proofs.Common.{Bool, eq-eqb, eqb-true, false, flat_map, int_cmp, IsTrue, length, Less, List, list_all, map, match_ordering, nat_cmp, nat_le, nat_tests, not}
use Rattle.desk_types.proofs.Common.{None, Option, pos, refl, Some, subst, sym, true, true≢false, ℕ}
use Rattle.line_tables.proofs.Common.{are_quiet, cast_row, Chosen, Database, Enforced, Ghosts, Held, Holds, Int, IsDatabase, Null, put_row, Row, rowid, Runs, schema_tables, State, state, Table, Trees, Two, value_cmp, value_cmp-Int}
use Rattle.line_tables.proofs.Common.{with_rowid, works}
use Rattle.line_tables.proofs.{Altering.other_tree, Inserts.insert_does, Inserts.Inserted, Puts.cast_int, Puts.cast_null, Puts.not_taken, Puts.put_permutes}
use Rattle.line_tables.specs.Rows.{Tables}
use Rattle.line_book_store.proofs.{Stays.holds_stays, Stays.ours, Texts.book_terms, Texts.insert_book_is}
use Rattle.line_book_store.specs.Book.{Adds, behind, Behind, book_at, book_of, book_schema, book_in, book_tree, entry_columns, shown_columns, GoOn, HoldsBook, HoldsBoth, IndexedShelf, KeepsBehind, layout_of, LeavesNoted, Noted, Notes, PlainShelf, Shelf, stored}
use Rattle.line_book.specs.declared.row.BookRow.{BookRow}
use Rattle.line_book_store.specs.declared.noting.TheConstants.{INSERT_BOOK}
use Rattle.sqlite_catalog.specs.Change.{KeepsRows}
use Rattle.sqlite_rules.specs.{Action.deed_for, Action.loses, Action.work_by, Action.work_for, declared.action.Deed.Deed}
use Rattle.sqlite_schema.specs.{Rules.parent_key, declared.schema.Reference.Reference}
use Rattle.sqlite_value.specs.declared.keys.Order.{Order}
use Rattle.std.specs.List.{filter_map}
use Rattle.desk_types.proofs.Common.{IsPermutation, IsPermutation-cons, IsPermutation-map, IsPermutation-trans, map-append}
use Rattle.line_tables.proofs.Common.{is_taken}
use Rattle.std.proofs.lemmas.List.Sorted.{IsPermutation-append_comm}

-- A new row triggers nothing, whatever refers to its table.

no_moves : (tree : ℕ) (child : Table) (ref : Reference) (deed : Option Deed) (key : Option (ℕ × List ℕ × Order)) → work_by 0 tree [] child ref deed key ≡ None
no_moves tree child ref None key = refl
no_moves tree child ref (Some deed) None = refl
no_moves tree child ref (Some deed) (Some key) = rw (and-false (key.0 == tree)) refl

module _ (tree : ℕ) (all : List Table) (deed : Reference → Option Deed) where
  none_of : (child : Table) (refs : List Reference) → filter_map (λ ref. work_by 0 tree [] child ref (deed ref) (parent_key all ref)) refs ≡ []
  none_of child [] = refl
  none_of child (ref ∷ refs) = rw (no_moves tree child ref (deed ref) (parent_key all ref)) (none_of child refs)

  none_in : (tables : List Table) → flat_map (λ child. filter_map (λ ref. work_by 0 tree [] child ref (deed ref) (parent_key all ref)) child.references) tables ≡ []
  none_in [] = refl
  none_in (t ∷ tables) = ap₂ (λ xs ys. xs ++ ys) (none_of t t.references) (none_in tables)

pub quiet_new : (shelf : Shelf) (news : List Row) → works (book_schema shelf) Enforced 0 (book_tree shelf) [] news ≡ []
quiet_new shelf news = none_in (book_tree shelf) (schema_tables Two (layout_of shelf)) (deed_for Enforced (length news == 0)) (schema_tables Two (layout_of shelf))

-- ---- the row that is put

row_cast : (tree : ℕ) (e : BookRow) → cast_row (book_at tree) (stored e) ≡ stored e
row_cast tree e = rw (cast_int (pos e.number), cast_int (pos e.after), cast_int (pos e.of), cast_null) refl

pub go_on : (n : ℕ) (entries : List BookRow) (e : BookRow) → GoOn n entries → e.number ≡ n + length entries + 1 → GoOn n (entries ++ e ∷ [])
go_on n [] e on is = (omega (arith, is), tt)
go_on n (x ∷ xs) e on is = (on.0, go_on (n + 1) xs e on.1 (omega (arith, is)))

-- ---- the other tables

other : (a b : ℕ) → (a == b) ≡ false → a ≢ b
other a b differ is = true≢false (sym (eq-eqb a b is) ∙ differ)

past_kept : (tree : ℕ) (tables : List Table) → are_quiet (tree + 1) tables ≡ true → (old new : Trees) → AllByRecursion (λ t. t.tree ≢ tree → new t.tree ≡ old t.tree) tables → KeepsRows tables old new
past_kept tree [] quiet old new same = tt
past_kept tree (t ∷ tables) quiet old new same =
    let h = and_parts _ _ quiet in
    let high : nat_le (tree + 1) t.tree ≡ true = (and_parts _ _ h.0).0 in
    let far : (t.tree == tree) ≡ false = grind (arith, nat_tests) in
    (same.0 (other t.tree tree far), past_kept tree tables h.1 old new same.1)

first_kept : (tree : ℕ) (xs ys : List Table) → list_all (λ t. not (t.tree == tree)) xs ≡ true → (old new : Trees) → AllByRecursion (λ t. t.tree ≢ tree → new t.tree ≡ old t.tree) (xs ++ ys) → KeepsRows xs old new
first_kept tree [] ys apart old new same = tt
first_kept tree (x ∷ xs) ys apart old new same = let is = and_parts _ _ apart in (same.0 (other_tree x.tree tree is.0), first_kept tree xs ys is.1 old new same.1)

module _ (e : BookRow) (old new : State) (ran : Runs INSERT_BOOK.now (entry_columns e) old new) where
  inserted : (shelf : Shelf) → old.now.schema ≡ book_schema shelf → Inserted (book_schema shelf) (book_of shelf) (stored e ∷ []) old new
  inserted (IndexedShelf more) has =
      let means = insert_book_is (IndexedShelf more) in
      insert_does INSERT_BOOK.now (entry_columns e) old new (book_schema (IndexedShelf more)) has 11 (book_at 23) book_terms 13 refl refl refl means.0 means.1 ran.count ran.executed (quiet_new (IndexedShelf more))
  inserted (PlainShelf more) has =
      let means = insert_book_is (PlainShelf more) in
      insert_does INSERT_BOOK.now (entry_columns e) old new (book_schema (PlainShelf more)) has 11 (book_at 21) book_terms 13 refl refl refl means.0 means.1 ran.count ran.executed (quiet_new (PlainShelf more))

  ours_stay : (shelf : Shelf) (has : old.now.schema ≡ book_schema shelf) → KeepsRows (ours (layout_of shelf)) old.now.trees new.now.trees
  ours_stay (IndexedShelf more) has = first_kept 23 (ours (layout_of (IndexedShelf more))) (book_at 23 ∷ more.tables) refl old.now.trees new.now.trees (inserted (IndexedShelf more) has).step.tables
  ours_stay (PlainShelf more) has = first_kept 21 (ours (layout_of (PlainShelf more))) (book_at 21 ∷ more.tables) refl old.now.trees new.now.trees (inserted (PlainShelf more) has).step.tables

  behind_stay : (shelf : Shelf) → old.now.schema ≡ book_schema shelf → KeepsRows (behind shelf) old.now.trees new.now.trees
  behind_stay (IndexedShelf more) has = past_kept 23 more.tables more.past old.now.trees new.now.trees (inserted (IndexedShelf more) has).step.tables.1.1.1.1.1.1.1.1.1.1.1.1
  behind_stay (PlainShelf more) has = past_kept 21 more.tables more.past old.now.trees new.now.trees (inserted (PlainShelf more) has).step.tables.1.1.1.1.1.1.1.1.1.1.1.1

  rows_put : (shelf : Shelf) (has : old.now.schema ≡ book_schema shelf) (entries : List BookRow) → IsPermutation (book_in shelf old.now) (map entry_columns entries) → IsPermutation (book_in shelf new.now) (map entry_columns (entries ++ e ∷ []))
  rows_put shelf has entries was =
      let rows = old.now.trees (book_tree shelf) in
      let step = (inserted shelf has).step in
      let news : with_rowid Chosen rows (cast_row (book_at (book_tree shelf)) (stored e)) ≡ stored e = ap (with_rowid Chosen rows) (row_cast (book_tree shelf) e) in
      let free : is_taken rows (stored e) ≡ false = not_taken (is_taken rows (stored e)) (subst (λ r. (not (is_taken rows r) && true) ≡ true) news step.fresh) in
      let put : new.now.trees (book_tree shelf) ≡ put_row (stored e) rows = step.rows ∙ ap (λ r. put_row r rows) news in
      let first : IsPermutation (map shown_columns (put_row (stored e) rows)) (entry_columns e ∷ map entry_columns entries) = IsPermutation-trans _ _ _ (IsPermutation-map shown_columns _ _ (put_permutes rows (stored e) free)) (IsPermutation-cons (entry_columns e) _ _ was) in
      let last : IsPermutation (entry_columns e ∷ map entry_columns entries) (map entry_columns (entries ++ e ∷ [])) = subst (IsPermutation (entry_columns e ∷ map entry_columns entries)) (sym (map-append entry_columns entries (e ∷ []))) (IsPermutation-append_comm (entry_columns e ∷ []) (map entry_columns entries)) in
      subst (λ t. IsPermutation (map shown_columns t) (map entry_columns (entries ++ e ∷ []))) (sym put) (IsPermutation-trans _ _ _ first last)

  pub notes_entry : Notes e old new
  notes_entry = record {
    was_open = ran.shown.was_open;
    done = record {
      adds = λ tables entries desk book next.
          let went = inserted book.shelf book.schema in (
            went.same ∙ sym book.schema,
            holds_stays (layout_of book.shelf) old.now new.now book.schema went.same (ours_stay book.shelf book.schema) tables desk,
            record {
              shelf = book.shelf;
              schema = went.same;
              rows = rows_put book.shelf book.schema entries book.rows;
              numbered = go_on 0 entries e book.numbered (omega (arith, next));
            },
          );
      schema = λ shelf has. (inserted shelf has).same ∙ sym has;
      behind = behind_stay;
    };
    sound = λ entries book. (inserted book.shelf book.schema).sound;
  }

module _ {S : Type 0} (g : Ghosts S) (old last : Held S) (settled : IsTrue (state g old).is_open → (state g old).now ≡ (state g old).committed) where
  pub entry_made : (e : BookRow) → Notes e (state g (record old { in_transaction = true })) (state g last) → Noted e (state g old).committed (state g last).now × LeavesNoted e (state g old) (state g last).now.trees
  entry_made e w =
      let same = settled w.was_open in
      let done : Noted e (state g old).committed (state g last).now = subst (λ (db : Database). Noted e db (state g last).now) same w.done in (
        done,
        record {
          was_open = w.was_open;
          holds = λ tables entries desk book next.
              let now = done.adds tables entries desk book next in
              record { db = (state g last).now; desk = now.1; book = now.2; sound = w.sound entries (subst (λ (db : Database). HoldsBook db entries) (sym same) book); same = refl };
          behind = done.behind;
        },
      )
