-- The rows that were read are all rows of the committed book.
use Rattle.desk_types.proofs.Common.{[], ◌++◌, ◌+◌, ◌==◌, ◌∙◌, ◌∷◌, ◌≡◌, ap, append-nil, arith, eqb-true, filter}
use Rattle.desk_types.proofs.Common.{filter-append, IsPermutation, IsPermutation-refl}
use Rattle.desk_types.proofs.Common.{IsPermutation-trans, length, length-append, length-map, length_permutation}
use Rattle.desk_types.proofs.Common.{List, map, not, refl, subst, subst₂, sym, true, ℕ}
use Rattle.line_book.specs.declared.note.Note.{Note}
use Rattle.line_book.specs.declared.reading.Reading.{Reading}
use Rattle.line_book.specs.declared.row.BookRow.{BookRow}
use Rattle.line_book.specs.Rows.{first_reading}
use Rattle.line_book_store.proofs.Found.{past}
use Rattle.line_book_store.proofs.ReadEntries.{read-count, read-numbers}
use Rattle.line_book_store.specs.Book.{book_in, entry_columns, GoOn}
use Rattle.line_book_store.specs.Checking.{AreAt, IsReadTo}
use Rattle.line_book_store.specs.Reading.{ReadsAll, ReadsShelf}
use Rattle.line_tables.proofs.Common.{has_number, IsPermutation-filter, one_permutation, Row, State}
use Rattle.std.proofs.{lemmas.List.Sorted.IsPermutation-append_right, lemmas.List.Sorted.IsPermutation-filter_both}
use Rattle.std.proofs.{lemmas.List.Sorted.IsPermutation-middle}

module _ (rows : List Row) where
  left_alone : (n : ℕ) (rest : List Row) (es : List BookRow) (row : Row) → filter (has_number n)
      (map entry_columns es) ≡ [] → IsPermutation rows (map entry_columns es ++ rest) → filter
      (has_number n) rows ≡ row ∷ [] → filter (has_number n) rest ≡ row ∷ []
  left_alone n rest es row none same found =
      let p = has_number n in
      let split : filter p (map entry_columns es ++ rest) ≡ filter p rest = filter-append p
      (map entry_columns es) rest ∙ ap (λ l. l ++ filter p rest) none in
      one_permutation row (filter p rest) (subst₂ (λ a b. IsPermutation a b) found split
      (IsPermutation-filter p rows (map entry_columns es ++ rest) same))

  others_of : (k : ℕ) (es : List BookRow) → GoOn k es → AreAt rows k es → (rest : List Row)
      × IsPermutation rows (map entry_columns es ++ rest)
  others_of k [] on at = (rows, IsPermutation-refl rows)
  others_of k (e ∷ es) on at =
      let p = has_number (k + 1) in
      let o = others_of (k + 1) es on.1 at.1 in
      let row = entry_columns e in
      let others = filter (λ r. not (p r)) o.0 in
      let apart : IsPermutation o.0 (row ∷ others) = subst (λ l. IsPermutation o.0 (l ++ others))
      (left_alone (k + 1) o.0 es row (past (k + 1) (k + 1) es on.1 (omega arith)) o.1 at.0)
      (IsPermutation-filter_both p (λ r. not (p r)) (λ _. refl) o.0) in (
        others,
        IsPermutation-trans _ _ _ o.1
            (IsPermutation-trans _ _ _ (IsPermutation-append_right (map entry_columns es) o.0 (row ∷ others) apart)
            (IsPermutation-middle (map entry_columns es) row others)),
      )

  all_rows : (es : List BookRow) → GoOn 0 es → AreAt rows 0 es → length rows ≡ length es
      → IsPermutation rows (map entry_columns es)
  all_rows es on at long =
      let o = others_of 0 es on at in
      let counted : length rows ≡ length es + length o.0 = sym (length_permutation _ _ o.1) ∙ length-append
      (map entry_columns es) o.0 ∙ ap (λ n. n + length o.0) (length-map es entry_columns) in
      subst (IsPermutation rows) (append-nil (map entry_columns es))
      (subst (λ l. IsPermutation rows (map entry_columns es ++ l)) (nothing o.0 (omega (arith, counted, long))) o.1)
    where
      nothing : (rest : List Row) → length rest ≡ 0 → rest ≡ []
      nothing [] h = refl
      nothing (r ∷ rest) h = absurd (omega (arith, h))

pub all_read : (commands : ℕ) (Clean : Type 0) (old : State) (notes : List Note) (b : Reading)
    (was : IsReadTo commands Clean old notes b) →
    (Clean → ReadsShelf old (λ rows. true ≡ (b.entries == length rows))) → Clean → ReadsAll old was.entries
all_read commands Clean old notes b was whole clean =
    let h = whole clean in
    let count = read-count (first_reading commands) b was.entries notes was.read in
    let on = read-numbers (first_reading commands) b was.entries notes was.read in
    record {
      was_open = h.was_open;
      holds = λ shelf has.
          let rows = book_in shelf old.committed in
          let long : b.entries ≡ length rows = eqb-true b.entries (length rows) (sym (h.are shelf has)) in
          record {
            shelf = shelf;
            schema = has;
            rows = all_rows rows was.entries on (was.there clean shelf has)
                (omega (arith, long, count.0, count.1));
            numbered = on;
          };
    }
