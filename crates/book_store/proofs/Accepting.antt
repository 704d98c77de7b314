-- A command that is accepted with its entries.
use Rattle.desk_types.proofs.Common.{[], ◌++◌, ◌+◌, ◌<◌, ◌∙◌, ◌∷◌, ◌≡◌, ◌≤◌, accept, All, All-append, All-cons}
use Rattle.desk_types.proofs.Common.{All-head, All-nil, All-tail, ap}
use Rattle.desk_types.proofs.Common.{arith, Basis, drop, drop-next, get_or, History, IfSome, length, refl, List, subst}
use Rattle.desk_types.proofs.Common.{sym, take, take-append-drop, ℕ}
use Rattle.desk_laws.proofs.Common.{Stamped}
use Rattle.line_book.specs.declared.note.Note.{Note}
use Rattle.line_book.specs.declared.reading.Reading.{Reading}
use Rattle.line_book.specs.declared.row.BookRow.{BookRow}
use Rattle.line_book.specs.{Book.Book, Guard.IsGuard, Guard.IsNextNote}
use Rattle.line_book.specs.Rows.{first_reading, read_on}
use Rattle.line_book_store.proofs.ReadEntries.{read-count, read-more, read-numbers}
use Rattle.line_book_store.specs.{Book.GoOn, Checking.AreRead, Checking.IsRead}
use Rattle.line_schema.specs.{Book.StandsWith, Stands.with_command}
use Rattle.line_tables.proofs.Common.{Ghosts}
use Rattle.book_store.proofs.Noting.{next_note, one_more, raised}
use Rattle.book_store.specs.Accepted.{AreNextNotes, ArePlacedAt, Refuses, RefusesRow, RefusesRows, with_both}
use Rattle.book_store.specs.Lists.{Lists, StandsFor}
use Rattle.book_store.specs.declared.fault.NoteFault.{NoteFault}
use Rattle.book_store.specs.declared.fault.NoteFault.TheVariants.{NoEntry, Unavailable}
use Rattle.book_store.specs.declared.store.BookStore.{BookStore}

-- ---- rows, read in turn

module _ (b mid : Reading) (place : ℕ) where
  pub placed_more : (rows : List BookRow) (notes : List Note) (after : Reading) (row : BookRow) (n : Note)
      → ArePlacedAt b place rows notes mid → IsRead mid row n → after ≡ read_on mid n → n.after ≡ place
      → ArePlacedAt b place (rows ++ row ∷ []) (notes ++ n ∷ []) after
  placed_more rows notes after row n are read on placed = record {
    read = read-more b mid after rows notes row n are.read read on;
    placed = All-append (λ (m : Note). m.after ≡ place) notes (n ∷ []) are.placed
        (All-cons (λ (m : Note). m.after ≡ place) n [] placed (All-nil (λ (m : Note). m.after ≡ place)));
  }

  -- The row behind those that were read is refused.
  pub refused_here : (rows : List BookRow) (i : ℕ) (row : BookRow) (notes : List Note) → i < length rows
      → row ≡ get_or rows i row → ArePlacedAt b place (take i rows) notes mid → (e : NoteFault)
      → RefusesRow mid place row e → RefusesRows b place rows e
  refused_here rows i row notes less is are (NoEntry fault) misread = record {
    first = take i rows;
    row = row;
    others = drop (i + 1) rows;
    are = sym (take-append-drop i rows) ∙ ap (λ more. take i rows ++ more) (drop-next rows i row less is);
    notes = notes;
    mid = mid;
    begin = are;
    misread = misread;
  }
  refused_here rows i row notes less is are Unavailable misread = tt

pub refuses_still : {S D : Type 0} (store : BookStore S D) (place : ℕ) (rows : List BookRow) (e : NoteFault)
    → RefusesRows store.reading place rows e → Refuses store store place rows e
refuses_still store place rows (NoEntry fault) misread = (misread, refl)
refuses_still store place rows Unavailable misread = tt

reads_on : (b c d : Reading) (rows news : List BookRow) (notes more : List Note) → AreRead b rows notes c
    → AreRead c news more d → AreRead b (rows ++ news) (notes ++ more) d
reads_on b c d [] news [] more are on = subst (λ (r : Reading). AreRead r news more d) are on
reads_on b c d (x ∷ rows) news (n ∷ notes) more are on = (
  are.0,
  reads_on (read_on b n) c d rows news notes more
      are.1 on,
)
reads_on b c d [] news (n ∷ notes) more are on = absurd are
reads_on b c d (x ∷ rows) news [] more are on = absurd are

next_notes : (H : History) (rows : List BookRow) (B : Book) (b d : Reading) (news : List BookRow) (notes : List Note)
    → AreRead (first_reading (length H)) rows B b → AreRead b news notes d → All
    (λ (n : Note). n.after ≡ length H) notes → AreNextNotes H B notes
next_notes H rows B b d [] [] was are placed = tt
next_notes H rows B b d (x ∷ news) (n ∷ notes) was are placed = (
  next_note (length H) rows B b was H x n are.0 (All-head (λ (m : Note). m.after ≡ length H) n notes placed),
  next_notes H (rows ++ x ∷ []) (B ++ n ∷ []) (read_on b n) d news notes (one_more (length H) rows B b was x n are.0)
      are.1 (All-tail (λ (m : Note). m.after ≡ length H) n notes placed),
)
next_notes H rows B b d [] (n ∷ notes) was are placed = absurd are
next_notes H rows B b d (x ∷ news) [] was are placed = absurd are

-- ---- entries that are taken in

pub next_here : (H : History) (B : Book) (notes : List Note) (i : ℕ) (n : Note) → i < length notes
    → n ≡ get_or notes i n → AreNextNotes H (B ++ take i notes) (drop i notes)
    → IsNextNote H (B ++ take i notes) n × AreNextNotes H
    ((B ++ take i notes) ++ n ∷ []) (drop (i + 1) notes)
next_here H B notes i n less is next = subst (AreNextNotes H (B ++ take i notes)) (drop-next notes i n less is) next

-- ---- both lists

module _ {S D : Type 0} (g : Ghosts S) (F : D → Basis → Type 0) (old : BookStore S D) (L : Lists)
    (was : StandsFor g F old L) (rows : List BookRow) (notes : List Note) (after : Reading)
    (are : ArePlacedAt old.reading (length L.kept.history) rows notes after) where
  pub go_on : GoOn (length L.rows) rows
  go_on =
      let count = read-count (first_reading (length L.kept.history)) old.reading L.rows L.notes was.read in
      let here : old.reading.entries ≡ length L.rows = omega (arith, count.0, count.1) in
      subst (λ k. GoOn k rows) here (read-numbers old.reading after rows notes are.read)

  pub all_next : AreNextNotes L.kept.history L.notes notes
  all_next = next_notes L.kept.history L.rows L.notes old.reading after rows notes was.read are.read are.placed

  -- The store represents both lists with the command and its entries.
  pub stands_both : (s : Stamped) (new : BookStore S D) (count : ℕ) → count ≡ length (accept L.kept.history s)
      → new.reading ≡ record after { commands = count }
      → StandsWith g F new.store (with_command L.kept s) (L.rows ++ rows)
      → IfSome new.guard (IsGuard (accept L.kept.history s) (L.notes ++ notes))
      → StandsFor g F new (with_both L s rows notes)
  stands_both s new count counted reading both guard =
      let read = reads_on (first_reading (length L.kept.history)) old.reading after L.rows rows L.notes notes was.read
      are.read in
      let more : length L.kept.history ≤ length (accept L.kept.history s) = omega arith in
      let on : new.reading ≡ record after { commands = length (accept L.kept.history s) } = reading
      ∙ ap (λ k. let raised : Reading = record after { commands = k } in raised) counted in
      record {
        both = both;
        read = subst (λ (r : Reading). AreRead (first_reading (length (accept L.kept.history s))) (L.rows ++ rows)
            (L.notes ++ notes) r) (sym on)
            (raised (first_reading (length L.kept.history)) after (length (accept L.kept.history s)) (L.rows ++ rows)
            (L.notes ++ notes) more read);
        guard = guard;
      }
