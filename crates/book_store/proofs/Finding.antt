-- A book that was found, or begun, and both lists read from the file.
use Rattle.desk_types.proofs.Common.{◌∙◌, ◌≡◌, ◌⊎◌, ap, Basis, Err, false, IfErr, IfOk, inl, inr, IsTrue, Ok, OnOk}
use Rattle.desk_types.proofs.Common.{Result, subst, sym, true}
use Rattle.line_book_store.specs.{Book.HoldsBook, Book.IsAlone, Names.has_book}
use Rattle.line_schema.specs.{Frames.ReadsStore, Stands.Kept, Stands.Stands, Stands.state_of}
use Rattle.line_schema.specs.declared.store.LineStore.{LineStore}
use Rattle.line_tables.proofs.Common.{Database, Ghosts, HasCleanDisk, Schema}
use Rattle.book_store.proofs.Places.{has_none, shelf_has}
use Rattle.book_store.specs.Opened.{Finds, HadRows, HasPlace, HasShelf, Knows, KnowsBoth}
use Rattle.book_store.specs.Restored.{IsRestored}
use Rattle.book_store.specs.declared.restoring.Restored.{Restored}

-- ---- the place of the book

pub shelf_there : (db : Database) → HasPlace db → has_book db.schema.tables ≡ Ok true → HasShelf db
shelf_there db (inl shelf) is = shelf
shelf_there db (inr alone) is = absurd (has_none db is alone)

pub alone_there : (db : Database) → HasPlace db → has_book db.schema.tables ≡ Ok false → IsAlone db
alone_there db (inr alone) is = alone
alone_there db (inl shelf) is = absurd (let two = sym is ∙ ap (λ (s : Schema). has_book s.tables) shelf.1
    ∙ shelf_has shelf.0 in cc)

-- ---- both lists

module _ {S D : Type 0} (g : Ghosts S) (F : D → Basis → Type 0) (old new : LineStore S D) (L : Kept)
    (r : Restored) (reads : ReadsStore g F old new) (stands : Stands g F old L)
    (is : IsRestored L (HasCleanDisk (state_of g new)) (state_of g old) r) where
  pub knows_by : (HasCleanDisk (state_of g new) → IsTrue L.own → HasShelf (state_of g old).committed)
      → Knows g F new L r
  knows_by has clean own =
      let shelf = has clean own in
      record {
        rows = is.rows;
        notes = is.notes;
        both = record {
          stands = reads.stands L stands;
          book = λ now owns is_open. subst (λ (db : Database). HoldsBook db is.rows)
              (sym ((reads.reads.kept now).committed is_open)) ((is.all clean).holds shelf.0 shelf.1);
        };
        read = is.read;
        guard = is.guard clean own;
      }

  -- A book that was there has the rows that were read.
  pub finds_by : (HasCleanDisk (state_of g new) → IsTrue L.own → HasShelf (state_of g old).committed)
      → HasCleanDisk (state_of g new) → IsTrue L.own
      → (k : KnowsBoth g F new L r) × HadRows (state_of g old).committed k.rows
  unfolding knows_by
  finds_by has clean own = (knows_by has clean own, λ shelf. (is.all clean).holds shelf.0 shelf.1)

-- ---- results

pub ok_always : {A E : Type 0} (r : Result A E) (P : Type 0) → P → OnOk r P
ok_always (Ok a) P p = p
ok_always (Err e) P p = tt

pub err_always : {A E : Type 0} (r : Result A E) (P : E → Type 0) → ((e : E) → P e) → IfErr r P
err_always (Ok a) P p = tt
err_always (Err e) P p = p e

pub err_weaker : {A E : Type 0} (r : Result A E) (P Q : E → Type 0) → ((e : E) → P e → Q e) → IfErr r P → IfErr r Q
err_weaker (Ok a) P Q f h = tt
err_weaker (Err e) P Q f h = f e h

pub wrong_later : {A E : Type 0} (r : Result A E) (Clean : Type 0) (M P : E → Type 0) → (Clean → IfErr r P)
    → IfErr r (λ e. M e ⊎ (Clean → P e))
wrong_later (Ok a) Clean M P h = tt
wrong_later (Err e) Clean M P h = inr h

module _ {S D : Type 0} (g : Ghosts S) (F : D → Basis → Type 0) (old new : LineStore S D) (L : Kept) where
  pub begun_by : {E : Type 0} (r : Result Restored E) → (HasCleanDisk (state_of g new) → OnOk r
      (IsTrue (state_of g old).is_open)) → (IsAlone (state_of g old).committed → IfOk r (Knows g F new L))
      → (IsTrue (state_of g old).is_open → HasPlace (state_of g old).committed → IsAlone
      (state_of g old).committed) → IfOk r (Finds g F old new L)
  begun_by (Ok x) opened lists alone = λ place clean own.
      let none = alone (opened clean) place in (
        lists none clean own,
        λ shelf. absurd (has_none (state_of g old).committed
            (ap (λ (s : Schema). has_book s.tables) shelf.1 ∙ shelf_has shelf.0) none),
      )
  begun_by (Err e) opened lists alone = tt
