-- Where the rows of a book stop being one.
use Rattle.desk_types.proofs.Common.{[], ◌++◌, ◌+◌, ◌<◌, ◌==◌, ◌∙◌, ◌∷◌, ◌≡◌, ◌≤◌, ◌⊎◌, AllByRecursion, ap, append-nil, arith, eqb-true, false, if◌then◌else◌, nat_lt, filter, filter-append, inl, inr, IsPermutation, IsPermutation-refl, IsPermutation-sym, IsPermutation-trans, is_eq, length, length-append, length-map, length_permutation, List, map, nat_tests, not, Option, refl, Some, subst, subst₂, sym, true, ℕ, Bool, ◌^◌}
use Rattle.line_tables.proofs.Common.{filter_none, has_number, only, IsPermutation-filter, KeepsCommit, one_permutation, Row, State}
use Rattle.line_book.specs.declared.note.Note.{Note}
use Rattle.line_book.specs.declared.reading.Reading.{Reading}
use Rattle.line_book.specs.declared.row.BookRow.{BookRow}
use Rattle.line_book.specs.Rows.{first_reading}
use Rattle.line_book_store.proofs.Found.{numbers_told, past}
use Rattle.line_book_store.proofs.ReadEntries.{read-book, read-count, read-more, read-numbers}
use Rattle.line_book_store.specs.Book.{book_in, book_schema, entry_columns, GoOn, HoldsBook, Shelf}
use Rattle.line_book_store.specs.Checking.{AreAt, BeginAs, fault_after, Goes, IsAt, IsChecked, IsFaultOf, IsRead, IsReadTo, IsStop, IsStuck, NoneFollows, Stops, StopsAt}
use Rattle.line_book_store.specs.Reading.{HasNumbers, OnShelf, ReadsAll, ReadsShelf}
use Rattle.line_book_store.specs.declared.fault.BookFault.{BookFault}
use Rattle.line_book_store.specs.declared.fault.BookFault.TheVariants.{Unavailable, WrongEntry}
use Rattle.std.proofs.{lemmas.List.Sorted.IsPermutation-append_right, lemmas.List.Sorted.IsPermutation-filter_both, lemmas.List.Sorted.IsPermutation-middle}
use Rattle.sqlite.specs.Effect.{Database}

-- ---- the rows of the entries, and others

none_numbered : (k n : ℕ) (es : List BookRow) → GoOn k es → k + length es < n → AllByRecursion (λ r. has_number n r ≡ false) (map entry_columns es)
none_numbered k n [] on high = tt
none_numbered k n (e ∷ es) on high =
    let other : (e.number == n) ≡ false = let is = on.0 in grind (arith, nat_tests) in
    (numbers_told n e ∙ other, none_numbered (k + 1) n es on.1 (omega (arith, high)))

none_behind : (es : List BookRow) → GoOn 0 es → filter (has_number (length es + 1)) (map entry_columns es) ≡ []
none_behind es on = filter_none (has_number (length es + 1)) (map entry_columns es) (none_numbered 0 (length es + 1) es on (omega arith))

left_alone : (n : ℕ) (rows rest : List Row) (es : List BookRow) (row : Row) → filter (has_number n) (map entry_columns es) ≡ [] → IsPermutation rows (map entry_columns es ++ rest) → filter (has_number n) rows ≡ row ∷ [] → filter (has_number n) rest ≡ row ∷ []
left_alone n rows rest es row none same found =
    let p = has_number n in
    let split : filter p (map entry_columns es ++ rest) ≡ filter p rest = filter-append p (map entry_columns es) rest ∙ ap (λ l. l ++ filter p rest) none in
    one_permutation row (filter p rest) (subst₂ (λ a b. IsPermutation a b) found split (IsPermutation-filter p rows (map entry_columns es ++ rest) same))

others_of : (k : ℕ) (rows : List Row) (es : List BookRow) → GoOn k es → AreAt rows k es → (rest : List Row) × IsPermutation rows (map entry_columns es ++ rest)
others_of k rows [] on at = (rows, IsPermutation-refl rows)
others_of k rows (e ∷ es) on at =
    let p = has_number (k + 1) in
    let o = others_of (k + 1) rows es on.1 at.1 in
    let row = entry_columns e in
    let others = filter (λ r. not (p r)) o.0 in
    let apart : IsPermutation o.0 (row ∷ others) = subst (λ l. IsPermutation o.0 (l ++ others)) (left_alone (k + 1) rows o.0 es row (past (k + 1) (k + 1) es on.1 (omega arith)) o.1 at.0) (IsPermutation-filter_both p (λ r. not (p r)) (λ _. refl) o.0) in
    (others, IsPermutation-trans _ _ _ o.1 (IsPermutation-trans _ _ _ (IsPermutation-append_right (map entry_columns es) o.0 (row ∷ others) apart) (IsPermutation-middle (map entry_columns es) row others)))

others_length : (rows : List Row) (es : List BookRow) (rest : List Row) → IsPermutation rows (map entry_columns es ++ rest) → length rows ≡ length es + length rest
others_length rows es rest same = sym (length_permutation _ _ same) ∙ length-append (map entry_columns es) rest ∙ ap (λ n. n + length rest) (length-map es entry_columns)

no_fewer : (rows : List Row) (es : List BookRow) → GoOn 0 es → AreAt rows 0 es → length es ≤ length rows
no_fewer rows es on at = let o = others_of 0 rows es on at in omega (arith, others_length rows es o.0 o.1)

more_rows : (rows : List Row) (es : List BookRow) (row : Row) → GoOn 0 es → AreAt rows 0 es → filter (has_number (length es + 1)) rows ≡ row ∷ [] → length es < length rows
more_rows rows es row on at found =
    let o = others_of 0 rows es on at in
    let some = some_left (has_number (length es + 1)) o.0 row (left_alone (length es + 1) rows o.0 es row (none_behind es on) o.1 found) in
    omega (arith, others_length rows es o.0 o.1, some)
  where
    some_left : (p : Row → Bool) (rest : List Row) (row : Row) → filter p rest ≡ row ∷ [] → 0 < length rest
    some_left p [] row h = absurd (cc)
    some_left p (r ∷ rest) row h = omega arith

pub all_rows : (rows : List Row) (es : List BookRow) → GoOn 0 es → AreAt rows 0 es → length rows ≡ length es → IsPermutation rows (map entry_columns es)
all_rows rows es on at long =
    let o = others_of 0 rows es on at in
    subst (IsPermutation rows) (append-nil (map entry_columns es)) (subst (λ l. IsPermutation rows (map entry_columns es ++ l)) (nothing o.0 (omega (arith, others_length rows es o.0 o.1, long))) o.1)
  where
    nothing : (rest : List Row) → length rest ≡ 0 → rest ≡ []
    nothing [] h = refl
    nothing (r ∷ rest) h = absurd (omega (arith, h))

-- ---- one entry more

at_more : (rows : List Row) (k : ℕ) (es : List BookRow) (e : BookRow) → AreAt rows k es → IsAt rows (k + length es) e → AreAt rows k (es ++ e ∷ [])
at_more rows k [] e at there = (subst (λ n. IsAt rows n e) (omega arith) there, tt)
at_more rows k (x ∷ es) e at there = (at.0, at_more rows (k + 1) es e at.1 (subst (λ n. IsAt rows n e) (omega arith) there))

-- What a later call read of the committed rows was there before.
pub shelf_before : (old mid : State) (Is : List Row → Type 0) → KeepsCommit old mid → ReadsShelf mid Is → ReadsShelf old Is
shelf_before old mid Is kept h =
    let same = kept.committed h.was_open in
    record { was_open = kept.was_open h.was_open; are = subst (λ (db : Database). OnShelf db Is) same h.are }

pub shelf_weaker : (old : State) (Is Then : List Row → Type 0) → ((rows : List Row) → Is rows → Then rows) → ReadsShelf old Is → ReadsShelf old Then
shelf_weaker old Is Then f h = record { was_open = h.was_open; are = λ shelf has. f _ (h.are shelf has) }

-- A row that no entry has, or the fault of a number that is out of range.
pub stops_by : (row : Row) (b : Reading) (f : BookFault) → f ≡ fault_after b.entries → ((e : BookRow) (n : Note) → HasNumbers e → row ≡ entry_columns e → IsRead b e n → ⊥) → Stops row b f
stops_by row b f is none = by (nat_lt (b.entries + 1) (2 ^ 32)) is
  where
    by : (fits : Bool) → f ≡ (if fits then WrongEntry (b.entries + 1) else Unavailable) → Stops row b f
    by true is = inr (is, none)
    by false is = inl is

pub stuck_at : (old : State) (o : Option Row) (row : Row) (b : Reading) (f : BookFault) → o ≡ Some row → ReadsShelf old (λ rows. filter (has_number (b.entries + 1)) rows ≡ only o) → Stops row b f → IsStop old b f
stuck_at old o row b f is found (inl lack) = inl lack
stuck_at old o row b f is found (inr stop) =
    inr (
      stop.0,
      shelf_weaker old (λ rows. filter (has_number (b.entries + 1)) rows ≡ only o) (λ rows. IsStuck rows b)
          (λ rows there.
          let at : filter (has_number (b.entries + 1)) rows ≡ row ∷ [] = there ∙ ap only is in
          record { row = row; there = at; stuck = λ e n numbers mine read. stop.1 e n numbers (ap (λ (l : List Row). Rattle.std.proofs.Common.get_or l 0 []) (sym at ∙ mine)) read }) found,
    )

pub read_later : (commands : ℕ) (Clean Then : Type 0) (old : State) (notes : List Note) (b : Reading) → (Then → Clean) → IsReadTo commands Clean old notes b → IsReadTo commands Then old notes b
read_later commands Clean Then old notes b early was = record { entries = was.entries; read = was.read; there = λ clean. was.there (early clean) }

pub read_nothing : (commands : ℕ) (Clean : Type 0) (old : State) → IsReadTo commands Clean old [] (first_reading commands)
read_nothing commands Clean old = record { entries = []; read = refl; there = λ clean shelf has. tt }

module _ (commands : ℕ) (Clean Then : Type 0) (early : Then → Clean) (old mid : State) (kept : Clean → KeepsCommit old mid) (notes : List Note) (b : Reading) (was : IsReadTo commands Clean old notes b) where
  count_is : b.entries ≡ length was.entries
  count_is = let count = read-count (first_reading commands) b was.entries notes was.read in omega (arith, count.0, count.1)

  pub one_more : (after : Reading) (n : Note) → Goes Then mid b after (Some n) → IsReadTo commands Then old (notes ++ n ∷ []) after
  one_more after n goes = record {
    entries = was.entries ++ goes.0 ∷ [];
    read = read-more (first_reading commands) b after was.entries notes goes.0 n was.read goes.1 goes.2;
    there = λ clean shelf has.
        let now = shelf_before old mid (λ rows. IsAt rows b.entries goes.0) (kept (early clean)) (goes.3 clean) in
        at_more (book_in shelf old.committed) 0 was.entries goes.0 (was.there (early clean) shelf has) (subst (λ k. IsAt (book_in shelf old.committed) k goes.0) (omega (arith, count_is)) (now.are shelf has));
  }

  stops_with : (rows : List Row) → AreAt rows 0 was.entries → length was.entries < length rows → NoneFollows rows b → StopsAt commands rows (b.entries + 1)
  stops_with rows at more stops =
      let count = read-count (first_reading commands) b was.entries notes was.read in
      record {
        notes = notes;
        reading = b;
        begin = record { entries = was.entries; there = at; read = was.read };
        place = omega (arith, count.1);
        more = omega (arith, count.0, more);
        stops = stops;
      }

  numbered : GoOn 0 was.entries
  numbered = read-numbers (first_reading commands) b was.entries notes was.read

  -- A row that stops the reading is a fault of the book.
  pub stop_is_fault : (f : BookFault) → Then → IsStop mid b f → IsFaultOf commands old f
  stop_is_fault f clean (inl is) = subst (IsFaultOf commands old) (sym is) tt
  stop_is_fault f clean (inr stop) =
      let h = shelf_before old mid (λ rows. IsStuck rows b) (kept (early clean)) stop.1 in
      subst (IsFaultOf commands old) (sym stop.0) (record {
        was_open = h.was_open;
        are = λ shelf has.
            let stuck = h.are shelf has in
            let rows = book_in shelf old.committed in
            let at = was.there (early clean) shelf has in
            stops_with rows at (more_rows rows was.entries stuck.row numbered at (subst (λ k. filter (has_number (k + 1)) rows ≡ stuck.row ∷ []) count_is stuck.there)) stuck.stuck;
      })

-- ---- the end

module _ (commands : ℕ) (Clean : Type 0) (old : State) (notes : List Note) (b : Reading) (was : IsReadTo commands Clean old notes b) where
  all_numbered : GoOn 0 was.entries
  all_numbered = read-numbers (first_reading commands) b was.entries notes was.read

  pub whole_book : (Clean → ReadsShelf old (λ rows. true ≡ (b.entries == length rows))) → IsChecked commands Clean old b.entries
  whole_book whole =
      let count = read-count (first_reading commands) b was.entries notes was.read in
      record {
        notes = notes;
        entries = was.entries;
        reading = b;
        read = was.read;
        book = read-book (first_reading commands) b was.entries notes was.read;
        counted = omega (arith, count.1);
        holds = λ clean. let h = whole clean in record {
          was_open = h.was_open;
          holds = λ shelf has.
              let rows = book_in shelf old.committed in
              let long : b.entries ≡ length rows = eqb-true b.entries (length rows) (sym (h.are shelf has)) in
              record { shelf = shelf; schema = has; rows = all_rows rows was.entries all_numbered (was.there clean shelf has) (omega (arith, long, count.0, count.1)); numbered = all_numbered };
        };
      }

  none_follows : (rows : List Row) → filter (has_number (b.entries + 1)) rows ≡ [] → NoneFollows rows b
  none_follows rows none = λ e n numbers there read. let both = sym none ∙ there in cc

  stops_short : Clean → ReadsShelf old (λ rows. filter (has_number (b.entries + 1)) rows ≡ []) → ReadsShelf old (λ rows. false ≡ (b.entries == length rows)) → IsFaultOf commands old (WrongEntry (b.entries + 1))
  stops_short clean none short = record {
    was_open = none.was_open;
    are = λ shelf has.
        let rows = book_in shelf old.committed in
        let at = was.there clean shelf has in
        let count = read-count (first_reading commands) b was.entries notes was.read in
        let fewer = no_fewer rows was.entries all_numbered at in
        let other = short.are shelf has in
        let more : b.entries < length rows = grind (arith, nat_tests) in
        record {
          notes = notes;
          reading = b;
          begin = record { entries = was.entries; there = at; read = was.read };
          place = omega (arith, count.1);
          more = omega (arith, count.1, more);
          stops = none_follows rows (none.are shelf has);
        };
  }

  -- A book with more rows than entries is faulty behind them.
  pub short_is_fault : Clean → ReadsShelf old (λ rows. filter (has_number (b.entries + 1)) rows ≡ []) → ReadsShelf old (λ rows. false ≡ (b.entries == length rows)) → (f : BookFault) → f ≡ fault_after b.entries → IsFaultOf commands old f
  short_is_fault clean none short f is = subst (IsFaultOf commands old) (sym is) (by (nat_lt (b.entries + 1) (2 ^ 32)))
    where
      by : (fits : Bool) → IsFaultOf commands old (if fits then WrongEntry (b.entries + 1) else Unavailable)
      by true = stops_short clean none short
      by false = tt
