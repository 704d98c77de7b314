-- The lists of a file that is opened again.
use Rattle.desk_types.proofs.Common.{[], ◌∙◌, ◌∷◌, ◌≡◌, ap, ap₂, Basis, History, IfSome, inl, IsJudged, IsPermutation}
use Rattle.desk_types.proofs.Common.{IsPermutation-sym, IsPermutation-trans, length, List, map, subst, sym, ℕ}
use Rattle.line_book.specs.declared.note.Note.{Note}
use Rattle.line_book.specs.declared.reading.Reading.{Reading}
use Rattle.line_book.specs.declared.row.BookRow.{BookRow}
use Rattle.line_book.specs.{Guard.IsGuard, Rows.first_reading, Rows.read_on}
use Rattle.line_book_store.proofs.{Found.one_book, ReadEntries.same_notes}
use Rattle.line_book_store.specs.{Book.book_in, Book.entry_columns, Book.HoldsBook, Checking.AreRead}
use Rattle.line_replay.specs.Rows.{ledger_tables, rows_of}
use Rattle.line_schema.specs.Stands.{Kept, state_of}
use Rattle.line_schema.specs.declared.store.LineStore.{LineStore}
use Rattle.line_tables.proofs.Common.{Database, Ghosts, Holds, IsDatabase, Schema, Trees, Two}
use Rattle.sqlite_catalog.{proofs.ReadLemmas.lists_once, specs.Listing.Lists as ListsTables}
use Rattle.sqlite_trees.specs.Objects.{catalog_tree}
use Rattle.book_store.specs.Ended.{LeavesLists}
use Rattle.book_store.specs.Lists.{book_state, Lists, StandsFor}
use Rattle.book_store.specs.declared.store.BookStore.{BookStore}
use Rattle.line_headline.specs.Runs.{AreLawful, IsOpenedOn}

-- Databases with the same trees are one.
one_database : (a b : Database) → IsDatabase a → IsDatabase b → a.trees ≡ b.trees → a ≡ b
one_database a b sound found same =
    let lists = subst (λ (d : Trees). ListsTables (d catalog_tree) b.schema) (sym same) found.lists in
    let schema : a.schema ≡ b.schema = lists_once (a.trees catalog_tree) a.schema b.schema sound.lists lists in
    ap₂ (λ (s : Schema) (d : Trees). record { schema = s; trees = d }) schema same

-- What was read follows from the entries.
read_of : Reading → List Note → Reading
read_of before [] = before
read_of before (n ∷ notes) = read_of (read_on before n) notes

is_read : (b c : Reading) (rows : List BookRow) (notes : List Note) → AreRead b rows notes c → c ≡ read_of b notes
unfolding read_of
is_read b c [] [] are = are
is_read b c (x ∷ rows) (n ∷ notes) are = is_read (read_on b n) c rows notes are.1
is_read b c [] (n ∷ notes) are = absurd are
is_read b c (x ∷ rows) [] are = absurd are

-- The same columns are the same book.
same_book : (db : Database) (xs ys : List BookRow) → HoldsBook db xs → map entry_columns xs ≡ map entry_columns ys
    → (other : Database) → HoldsBook other ys → HoldsBook db ys
same_book db xs ys book same other its = record {
  shelf = book.shelf;
  schema = book.schema;
  rows = subst (λ rs. IsPermutation (book_in book.shelf db) rs) same book.rows;
  numbered = its.numbered;
}

-- A database has the tables of one history.
one_history : (db : Database) (m n : ℕ) (G H : History)
    → ((A B : History) → IsJudged Two A → IsJudged Two B → IsPermutation (rows_of A) (rows_of B) → A ≡ B)
    → IsJudged Two G → IsJudged Two H → Holds db (ledger_tables m G) → Holds db (ledger_tables n H) → G ≡ H
one_history db m n G H tell judged judged' has was =
    tell G H judged judged' (IsPermutation-trans _ _ _ (IsPermutation-sym _ _ has.accepted) was.accepted)

module _ {S D : Type 0} (g : Ghosts S) (Desks : D → Basis → Type 0) (desk : LineStore S D) (opened : BookStore S D)
    (L : Lists) (trees : Trees) (K : Kept)
    (tell : (A B : History) → IsJudged Two A → IsJudged Two B → IsPermutation (rows_of A) (rows_of B) → A ≡ B)
    (lawful : AreLawful L) (left : LeavesLists L trees) (is : IsOpenedOn g Desks desk opened K trees) where
  abbrev db : Database
  db = (state_of g desk).committed

  same-db : left.db ≡ db
  same-db = one_database left.db db left.sound is.sound (sym left.same ∙ sym is.holds)

  book : HoldsBook db L.rows
  book = subst (λ (d : Database). HoldsBook d L.rows) same-db left.book

  history : K.history ≡ L.kept.history
  history = one_history db K.greatest L.kept.greatest K.history L.kept.history tell is.stands.judged lawful.judged
      (is.stands.tables is.is_honest is.own is.is_open)
      (subst (λ (d : Database). Holds d (ledger_tables L.kept.greatest L.kept.history)) same-db left.desk)

  pub next_lists : (K.history ≡ L.kept.history)
      × StandsFor g Desks opened (record { kept = K; rows = L.rows; notes = L.notes })
  next_lists =
      let found = is.opens.lists (inl (book.shelf, book.schema)) is.stays_honest is.own in
      let rows = found.0 in
      let notes = found.1 in
      let stands = found.2 in
      let same = one_book db rows L.rows (found.3 (book.shelf, book.schema)) book in
      let first = first_reading (length K.history) in
      let its = subst (λ (H : History). AreRead (first_reading (length H)) L.rows L.notes lawful.read.0) (sym history)
      lawful.read.1 in
      let told : notes ≡ L.notes = same_notes first opened.reading lawful.read.0 rows L.rows notes L.notes same
      stands.read its in
      let end : lawful.read.0 ≡ opened.reading = is_read first lawful.read.0 L.rows L.notes its
      ∙ ap (read_of first) (sym told) ∙ sym (is_read first opened.reading rows notes stands.read) in (
        history,
        record {
          both = record {
            stands = stands.both.stands;
            book = λ clean own still. same_book (book_state g opened).committed rows L.rows
                (stands.both.book clean own still) same db book;
          };
          read = subst (λ r. AreRead first L.rows L.notes r) end its;
          guard = subst (λ B. IfSome opened.guard (IsGuard K.history B)) told stands.guard;
        },
      )
