-- The effect of creating the book.
use Rattle.desk_types.proofs.Common.{[], ◌++◌, ◌∙◌, ◌∷◌, ◌≡◌, ap, IsPermutation, IsPermutation-refl, map, IsTrue, List, None, refl, Some, subst, sym, true, ℕ}
use Rattle.line_tables.proofs.Common.{alone, blank, Database, Ghosts, Held, Holds, Indexed, IsDatabase, Layout, no_schema, One, Plain, Runs, runs_as, schema_of, State, state, Table, Trees, Two}
use Rattle.line_tables.proofs.Creates.{creates}
use Rattle.line_tables.specs.Calls.{Grows, Makes}
use Rattle.line_tables.specs.Line.{first_behind, nothing}
use Rattle.line_tables.specs.Rows.{Tables}
use Rattle.sqlite.specs.Command.TheVariants.{CreateTable}
use Rattle.line_book_store.proofs.{Stays.desk_new, Stays.ours, Texts.create_book_is}
use Rattle.line_book_store.specs.Book.{book_at, book_schema, book_tree, shown_columns, HoldsBook, HoldsBoth, HoldsEmpty, IndexedShelf, IsAlone, layout_of, LeavesEmpty, LeavesOpened, MakesBoth, Opened, Opens, PlainShelf, Shelf}
use Rattle.line_book_store.specs.declared.making.TheConstants.{CREATE_BOOK}
use Rattle.sqlite_catalog.specs.Change.{KeepsRows}

-- The shelf of a new book.
abbrev pub new_shelf : Layout → Shelf
new_shelf (Indexed others) = IndexedShelf (record { tables = []; indexes = []; views = []; quiet = refl; past = refl })
new_shelf (Plain others) = PlainShelf (record { tables = []; indexes = []; views = []; quiet = refl; past = refl })

module _ (old new : State) (ran : Runs CREATE_BOOK.now [] old new) where
  grows : (i : Layout) → old.now.schema ≡ schema_of Two (alone i) → Grows (schema_of Two (alone i)) (book_schema (new_shelf i)) (book_tree (new_shelf i)) old.now new.now
  grows (Indexed others) = creates CREATE_BOOK.now old new (schema_of Two (alone (Indexed others))) (book_at 23) (create_book_is (Indexed others)) refl ran
  grows (Plain others) = creates CREATE_BOOK.now old new (schema_of Two (alone (Plain others))) (book_at 21) (create_book_is (Plain others)) refl ran

  sound_of : (i : Layout) → old.now.schema ≡ schema_of Two (alone i) → IsDatabase new.now
  sound_of i has = let is = create_book_is i in (runs_as CREATE_BOOK.now [] old new (schema_of Two (alone i)) has CreateTable is.0 is.2 ran.count ran.executed).sound

  holds_new : (i : Layout) → old.now.schema ≡ schema_of Two (alone i) → (t : Tables) → Holds old.now t → Holds new.now t × HoldsBook new.now []
  holds_new (Indexed others) has t desk =
      let g = grows (Indexed others) has in
      (desk_new (alone (Indexed others)) (layout_of (new_shelf (Indexed others))) old.now new.now has g.schema g.kept refl t desk, record { shelf = new_shelf (Indexed others); schema = g.schema; rows = subst (λ t. IsPermutation (map shown_columns t) []) (sym g.empty) (IsPermutation-refl []); numbered = tt })
  holds_new (Plain others) has t desk =
      let g = grows (Plain others) has in
      (desk_new (alone (Plain others)) (layout_of (new_shelf (Plain others))) old.now new.now has g.schema g.kept refl t desk, record { shelf = new_shelf (Plain others); schema = g.schema; rows = subst (λ t. IsPermutation (map shown_columns t) []) (sym g.empty) (IsPermutation-refl []); numbered = tt })

  pub opens_book : Opens old new
  opens_book = record {
    was_open = ran.shown.was_open;
    done = record { opened = λ tables desk alone_is. holds_new alone_is.0 alone_is.1 tables desk };
    sound = λ alone_is. sound_of alone_is.0 alone_is.1;
  }

module _ {S : Type 0} (g : Ghosts S) (old last : Held S) (settled : IsTrue (state g old).is_open → (state g old).now ≡ (state g old).committed) where
  pub book_made : Opens (state g (record old { in_transaction = true })) (state g last) → Opened (state g old).committed (state g last).now × LeavesOpened (state g old) (state g last).now.trees
  book_made w =
      let same = settled w.was_open in
      let done : Opened (state g old).committed (state g last).now = subst (λ (db : Database). Opened db (state g last).now) same w.done in (
        done,
        record {
          was_open = w.was_open;
          holds = λ tables desk alone_is.
              let now = done.opened tables desk alone_is in
              record { db = (state g last).now; desk = now.0; book = now.1; sound = w.sound (subst IsAlone (sym same) alone_is); same = refl };
        },
      )

-- ---- a new file

pub both_opened : (greatest : ℕ) (old mid new : State) → Makes greatest old mid → Opens mid new → MakesBoth greatest old new
both_opened greatest old mid new m o = record {
  was_open = m.was_open;
  done = λ none. let made = m.done none in let both = o.done.opened (blank greatest) made.tables (Plain nothing, made.layout) in record { desk = both.0; book = both.1 };
  sound = λ none. o.sound (Plain nothing, (m.done none).layout);
}

pub empty_made : {S : Type 0} (g : Ghosts S) (old last : Held S) (greatest : ℕ) → MakesBoth greatest (state g (record old { in_transaction = true })) (state g last)
    → ((state g old).now.schema ≡ no_schema → HoldsEmpty greatest (state g last).now) × LeavesEmpty greatest (state g old) (state g last).now.trees
empty_made g old last greatest w = (w.done, record { was_open = w.was_open; holds = λ none. let done = w.done none in record { db = (state g last).now; desk = done.desk; book = done.book; sound = w.sound none; same = refl } })
