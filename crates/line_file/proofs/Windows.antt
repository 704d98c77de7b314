-- The rows of a book that are returned: all, read as one window, or none.
use Rattle.desk_types.proofs.Common.{[], ◌&&◌, ◌+◌, ◌<◌, ◌≡◌, ◌≤◌, ap, arith, filter, length, List, nat_le, nat_lt}
use Rattle.desk_types.proofs.Common.{Bool, false, map, nat_tests, refl, true, ◌∷◌, ℕ}
use Rattle.line_answers.specs.Book.{written_row}
use Rattle.line_book.specs.declared.row.BookRow.{BookRow}
use Rattle.line_book_store.specs.{Book.GoOn, Reading.window}
use Rattle.line_file.specs.Lists.{AreTold}

in_window : (n : ℕ) (e : BookRow) → 0 < e.number → e.number ≤ n → (nat_lt 0 e.number && nat_le e.number (0 + n)) ≡ true
in_window n e more less = grind (arith, nat_tests)

pub whole_window : (k n : ℕ) (rows : List BookRow) → GoOn k rows → k + length rows ≤ n → window 0 n rows ≡ rows
whole_window k n [] on fits = refl
whole_window k n (e ∷ rows) on fits =
    rw (in_window n e (omega (arith, on.0)) (omega (arith, on.0, fits)))
    (ap (λ more. e ∷ more) (whole_window (k + 1) n rows on.1 (omega (arith, fits))))

pub none_told : (with_rows : Bool) (told : List BookRow) → told ≡ [] → AreTold with_rows [] told
none_told true told none = ap (map written_row) none
none_told false told none = none
