-- The rows of findings, read as their entries.
use Rattle.desk_types.proofs.Common.{[], ◌++◌, ◌+◌, ◌<◌, ◌∷◌, ◌≡◌, ◌≤◌, All, All-head, All-tail, ap, append-nil}
use Rattle.desk_types.proofs.Common.{append_assoc, drop, drop-next, drop_all, get_or, length, length-append, List}
use Rattle.desk_types.proofs.Common.{refl, subst, subst₂, sym, ℕ}
use Rattle.line_book.specs.declared.note.Note.{Note}
use Rattle.line_book.specs.declared.reading.Reading.{Reading}
use Rattle.line_book.specs.declared.row.BookRow.{BookRow}
use Rattle.line_book.specs.Rows.{first_reading, read_on}
use Rattle.line_book_store.specs.Checking.{AreRead}
use Rattle.line_entries.proofs.{Reading.row_read, ToldEntries.plain_told}
use Rattle.line_entries.specs.declared.entry.Place.{Place}
use Rattle.line_entries.specs.declared.row.Sender.{Sender}
use Rattle.line_entries.specs.Rows.{IsRowOf}
use Rattle.line_members.specs.Accepted.{IsPlain}
use Rattle.line_members.specs.declared.finding.Finding.{Finding}
use Rattle.book_store.proofs.Noting.{adds_entry, one_more}
use Rattle.book_store.specs.Ended.{with_note}
use Rattle.book_store.specs.Findings.{AddsFindings, AreRowsOf, finding_note, place_after}
use Rattle.book_store.specs.Lists.{Lists}
use Rattle.book_store.specs.Noted.{IsNextEntry, place_in}

abbrev with_rows : Lists → List BookRow → List Note → Lists
with_rows L rows notes = record L { rows = L.rows ++ rows; notes = L.notes ++ notes }

nothing_more : (L : Lists) → with_rows L [] [] ≡ L
nothing_more L = λ i. record { kept = L.kept; rows = append-nil L.rows i; notes = append-nil L.notes i }

one_and_more : (L : Lists) (row : BookRow) (x : Note) (rows : List BookRow) (notes : List Note)
    → with_rows (with_note L row x) rows notes ≡ with_rows L (row ∷ rows) (x ∷ notes)
one_and_more L row x rows notes =
    let more = append_assoc L.rows (row ∷ []) rows in
    let said = append_assoc L.notes (x ∷ []) notes in
    λ i. record { kept = L.kept; rows = more i; notes = said i }

next_place : (L : Lists) (row : BookRow) (x : Note) (fs : List Finding) (sender : Sender) (rows : List BookRow)
    → AreRowsOf (record (place_in L) { number = length L.notes + 1 + 1 }) fs sender rows
    → AreRowsOf (place_in (with_note L row x)) fs sender rows
next_place L row x fs sender rows are =
    let long : length L.notes + 1 ≡ length (L.notes ++ x ∷ []) = sym (length-append L.notes (x ∷ [])) in
    subst (λ (k : ℕ). AreRowsOf (record (place_in L) { number = k + 1 }) fs sender rows) long are

-- The entries that are read of them.
pub adds_findings : (sender : Sender) (L : Lists) (b d : Reading) (fs : List Finding) (rows : List BookRow)
    (notes : List Note) → AreRead (first_reading (length L.kept.history)) L.rows L.notes b → All IsPlain fs
    → AreRowsOf (place_in L) fs sender rows → AreRead b rows notes d
    → AddsFindings L fs sender (with_rows L rows notes)
adds_findings sender L b d [] [] [] was plain are read = nothing_more L
adds_findings sender L b d (f ∷ fs) (row ∷ rows) (x ∷ notes) was plain (is, others) read =
    let n = finding_note (place_in L) f in
    let own = All-head IsPlain f fs plain in
    let next : IsNextEntry L f.told n = record {
      placed = refl;
      earlier = λ about same. absurd (own.1 about same);
      tells = plain_told (place_in L) f.matter f.told own.0;
    } in
    let N = with_note L row x in
    let adds = adds_entry L b was f.told n next sender row is
    (λ before named next tells has. row_read before n sender f.told row named is next tells has) N x read.0 refl in
    let more = adds_findings sender N (read_on b x) d fs rows notes
    (one_more (length L.kept.history) L.rows L.notes b was row x read.0) (All-tail IsPlain f fs plain)
    (next_place L row x fs sender rows others) read.1 in
    (N, adds, subst (AddsFindings N fs sender) (one_and_more L row x rows notes) more)
adds_findings sender L b d [] [] (x ∷ notes) was plain are read = absurd read
adds_findings sender L b d [] (row ∷ rows) notes was plain are read = absurd are
adds_findings sender L b d (f ∷ fs) [] notes was plain are read = absurd are
adds_findings sender L b d (f ∷ fs) (row ∷ rows) [] was plain are read = absurd read

-- ---- rows in turn

module _ (place : Place) (fs : List Finding) (sender : Sender) (rows : List BookRow) (i : ℕ) where
  pub row_more : (f : Finding) (here next : Place) (note : Note) (told : List ℕ) (row : BookRow) → i < length fs
      → f ≡ get_or fs i f → note ≡ finding_note here f → told ≡ f.told → IsRowOf note sender told row
      → next ≡ place_after here → ((others : List BookRow) → AreRowsOf here (drop i fs) sender others
      → AreRowsOf place fs sender (rows ++ others))
      → (others : List BookRow) → AreRowsOf next (drop (i + 1) fs) sender others
      → AreRowsOf place fs sender ((rows ++ row ∷ []) ++ others)
  row_more f here next note told row less is same words is_row later so others are =
      let own : IsRowOf (finding_note here f) sender f.told row = subst₂ (λ (n : Note) (w : List ℕ). IsRowOf n sender w
      row) same words is_row in
      let behind : AreRowsOf (place_after here) (drop (i + 1) fs) sender others = subst
      (λ (p : Place). AreRowsOf p (drop (i + 1) fs) sender others) later are in
      let all : AreRowsOf here (drop i fs) sender (row ∷ others) = subst
      (λ (gs : List Finding). AreRowsOf here gs sender (row ∷ others)) (sym (drop-next fs i f less is)) (own, behind) in
      subst (AreRowsOf place fs sender) (sym (append_assoc rows (row ∷ []) others)) (so (row ∷ others) all)

  pub all_rows : (here : Place) → length fs ≤ i → ((others : List BookRow) → AreRowsOf here (drop i fs) sender others
      → AreRowsOf place fs sender (rows ++ others)) → AreRowsOf place fs sender rows
  all_rows here over so =
      let none : AreRowsOf here (drop i fs) sender [] = subst (λ (gs : List Finding). AreRowsOf here gs sender [])
      (sym (drop_all i fs over)) tt in
      subst (AreRowsOf place fs sender) (append-nil rows) (so [] none)

pub rows_as : (p q : Place) (fs gs : List Finding) (a b : Sender) (rows : List BookRow) → p ≡ q → fs ≡ gs → a ≡ b
    → AreRowsOf p fs a rows → AreRowsOf q gs b rows
rows_as p q fs gs a b rows place found sender are =
    let one = subst (λ (k : Place). AreRowsOf k fs a rows) place are in
    let two = subst (λ (l : List Finding). AreRowsOf q l a rows) found one in
    subst (λ (s : Sender). AreRowsOf q gs s rows) sender two
