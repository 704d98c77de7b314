-- The book's text, from the rows that were read.
use Rattle.desk_types.proofs.Common.{[], ◌&&◌, ◌+◌, ◌<◌, ◌∙◌, ◌∷◌, ◌≡◌, ◌≤◌, ap, arith, Bool, cases_Bool, false}
use Rattle.desk_types.proofs.Common.{filter, if◌then◌else◌, inl, inr, length, List, ltb-true, map, nat_le, nat_lt}
use Rattle.desk_types.proofs.Common.{nat_tests, refl, string_bytes, sym, true, ℕ}
use Rattle.line_answers.specs.Book.{book_header, book_text, fields_with, is_wanted, Written, written_row}
use Rattle.line_answers.specs.Csv.{csv_text}
use Rattle.line_answers.specs.declared.book.Wanted.{Wanted}
use Rattle.line_answers.specs.declared.book.Wanted.TheVariants.{After, Undecided}
use Rattle.line_book.specs.declared.note.Note.{Note}
use Rattle.line_book.specs.declared.reading.Reading.{Reading}
use Rattle.line_book.specs.declared.row.BookRow.{BookRow}
use Rattle.line_book.specs.{Book.is_open, Rows.first_reading, Undecided.undecided}
use Rattle.line_book_store.proofs.ReadEntries.{read-count, read-numbers}
use Rattle.line_book_store.specs.{Book.entry_columns, Book.GoOn, Checking.AreRead, Reading.window}
use Rattle.book_store.specs.Entries.{before_wanted}
use Rattle.book_store.specs.Lists.{Lists}

-- ---- rows that are looked through

twice : (p q : BookRow → Bool) (e : BookRow) (more : List BookRow) → (q e ≡ true → p e ≡ true)
    → filter q (filter p more) ≡ filter q more → filter q (filter p (e ∷ more)) ≡ filter q (e ∷ more)
twice p q e more passes same = elim (cases_Bool (q e)) [
  | inl is ↦ rw (passes is) (rw is (ap (λ rows. e ∷ rows) same))
  | inr no_row ↦ elim (cases_Bool (p e)) [
    | inl is ↦ rw is (rw no_row same)
    | inr is ↦ rw (is, no_row) same
  ]
]

module _ (a most : ℕ) (q : BookRow → Bool) (behind : (e : BookRow) → 0 < e.number → q e ≡ true → a < e.number) where
  in_window : (e : BookRow) → a < e.number → e.number ≤ a + most
      → (nat_lt a e.number && nat_le e.number (a + most)) ≡ true
  in_window e more less = grind (arith, nat_tests)

  enough : (k : ℕ) (rows : List BookRow) → GoOn k rows → k + length rows ≤ a + most
      → filter q (window a most rows) ≡ filter q rows
  enough k [] on fits = refl
  enough k (e ∷ rows) on fits = twice (λ (e : BookRow). nat_lt a e.number && nat_le e.number (a + most)) q e rows
      (λ is. in_window e (behind e (omega (arith, on.0)) is) (omega (arith, on.0, fits)))
      (enough (k + 1) rows on.1 (omega (arith, fits)))

-- ---- rows with the same columns

row_same : (x y : BookRow) → entry_columns x ≡ entry_columns y → written_row x ≡ written_row y
row_same x y same =
    let number : x.number ≡ y.number = cc in
    let after : x.after ≡ y.after = cc in
    let kind : string_bytes x.kind ≡ string_bytes y.kind = cc in
    let source : string_bytes x.source ≡ string_bytes y.source = cc in
    let uid : string_bytes x.uid ≡ string_bytes y.uid = cc in
    let machine : string_bytes x.machine ≡ string_bytes y.machine = cc in
    let slot : string_bytes x.slot ≡ string_bytes y.slot = cc in
    let board : string_bytes x.board ≡ string_bytes y.board = cc in
    let reel : string_bytes x.reel ≡ string_bytes y.reel = cc in
    let word : string_bytes x.word ≡ string_bytes y.word = cc in
    let of : x.of ≡ y.of = cc in
    let told : string_bytes x.told ≡ string_bytes y.told = cc in
    λ i. record {
      number = number i;
      after = after i;
      kind = kind i;
      source = source i;
      uid = uid i;
      machine = machine i;
      slot = slot i;
      board = board i;
      reel = reel i;
      word = word i;
      of = of i;
      told = told i;
    }

pub rows_same : (xs ys : List BookRow) → map entry_columns xs ≡ map entry_columns ys
    → map written_row xs ≡ map written_row ys
rows_same [] [] same = refl
rows_same [] (y ∷ ys) same = cc
rows_same (x ∷ xs) [] same = cc
rows_same (x ∷ xs) (y ∷ ys) same =
    let row : entry_columns x ≡ entry_columns y = cc in
    let rows : map entry_columns xs ≡ map entry_columns ys = cc in
    let one = row_same x y row in
    let more = rows_same xs ys rows in
    λ i. one i ∷ more i

written_filter : (q : Written → Bool) (rows : List BookRow)
    → filter q (map written_row rows) ≡ map written_row (filter (λ e. q (written_row e)) rows)
written_filter q [] = refl
written_filter q (e ∷ rows) = elim (q (written_row e)) as
    (λ b. (if b then written_row e ∷ filter q (map written_row rows) else filter q (map written_row rows))
    ≡ map written_row (if b then e ∷ filter (λ e. q (written_row e)) rows else filter (λ e. q (written_row e)) rows))
    [ true ↦ ap (λ more. written_row e ∷ more) (written_filter q rows) | false ↦ written_filter q rows ]

-- ---- the text

behind_wanted : (waiting : List Note) (wanted : Wanted) (e : BookRow) → 0 < e.number
    → is_wanted waiting wanted (written_row e) ≡ true → before_wanted wanted < e.number
behind_wanted waiting (After number) e some is = ltb-true number e.number is
behind_wanted waiting Undecided e some is = some

-- The rows that may be asked for give the text of all rows.
pub text_read : (L : Lists) (b : Reading) → AreRead (first_reading (length L.kept.history)) L.rows L.notes b
    → (wanted : Wanted) (found : List BookRow)
    → map entry_columns found ≡ map entry_columns (window (before_wanted wanted) (length L.notes) L.rows)
    → book_text L.kept.history L.notes wanted (map written_row found)
    ≡ book_text L.kept.history L.notes wanted (map written_row L.rows)
text_read L b read wanted found same =
    let open_notes = filter (is_open L.kept.history L.notes) L.notes in
    let waiting = undecided L.notes in
    let a = before_wanted wanted in
    let count = read-count (first_reading (length L.kept.history)) b L.rows L.notes read in
    let on : GoOn 0 L.rows = read-numbers (first_reading (length L.kept.history)) b L.rows L.notes read in
    let fits : 0 + length L.rows ≤ a + length L.notes = omega (arith, count.0, count.1) in
    let asked = is_wanted waiting wanted in
    let whole = enough a (length L.notes) (λ e. asked (written_row e)) (behind_wanted waiting wanted) 0 L.rows on
    fits in
    let rows = window a (length L.notes) L.rows in
    ap (λ ws. csv_text book_header (map (fields_with open_notes waiting) ws))
    (ap (filter asked) (rows_same found rows same) ∙ written_filter asked rows ∙ ap (map written_row) whole
    ∙ sym (written_filter asked L.rows))
