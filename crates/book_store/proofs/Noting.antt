-- Rows that are read as entries, while both lists grow.
use Rattle.desk_types.proofs.Common.{[], ◌++◌, ◌+◌, ◌∙◌, ◌∷◌, ◌≡◌, ◌≤◌, ap, arith, Bool, false, History, length, List}
use Rattle.desk_types.proofs.Common.{MatchBool, nat_le, nat_tests, None, Ok, Option, refl, Some, subst, sym, true, ℕ}
use Rattle.line_book.proofs.RowsRead.{follows-read}
use Rattle.line_book.specs.declared.kind.Names.{Names}
use Rattle.line_book.specs.declared.note.Matter.{Matter}
use Rattle.line_book.specs.declared.note.Matter.TheVariants.{Attribute, Begun, Boundary, Decision, Differs, Handling}
use Rattle.line_book.specs.declared.note.Matter.TheVariants.{Hold, Made, Release, Restored, Stray, Uncompared, Unread, Work}
use Rattle.line_book.specs.declared.note.Note.{Note}
use Rattle.line_book.specs.declared.reading.Reading.{Reading}
use Rattle.line_book.specs.declared.row.BookRow.{BookRow}
use Rattle.line_book.specs.{Guard.IsNextNote, Undecided.is_known}
use Rattle.line_book.specs.Rows.{entry_in, first_reading, HasNames, matter_in, read_on}
use Rattle.line_book_store.proofs.ReadEntries.{read-count, read-follows, read-more, said}
use Rattle.line_book_store.specs.Checking.{AreRead, IsRead}
use Rattle.line_entries.specs.declared.row.Sender.{Sender}
use Rattle.line_entries.specs.Rows.{IsNext, IsRowOf, IsToldBy, may_carry}
use Rattle.book_store.specs.Ended.{with_note}
use Rattle.book_store.specs.Lists.{Lists}
use Rattle.book_store.specs.Noted.{AddsEntry, IsNextEntry, Keeps, KeepsAny}

-- ---- one row

-- The row's number is the next one, and its place is within the history.
pub row_follows : (b : Reading) (row : BookRow) (n : Note) → IsRead b row n → (row.number ≡ b.entries + 1) ×
    (row.after ≤ b.commands)
row_follows b row n read =
    let it = said b row read.0 n read.2 in
    let follows = follows-read b row read.0 it.0 it.1 it.2 in
    (follows.number, follows.within)

-- It can be read after more commands too.
raised_entry : (b : Reading) (c : ℕ) (row : BookRow) (named : Option Names) → nat_le row.after b.commands ≡ true
    → nat_le row.after c ≡ true
    → entry_in (record b { commands = c }) row named ≡ entry_in b row named
unfolding entry_in matter_in
raised_entry b c row named was is = rw (was, is) refl

raised_read : (b : Reading) (c : ℕ) (row : BookRow) (n : Note) → b.commands ≤ c → IsRead b row n → IsRead
    (record b { commands = c }) row n
raised_read b c row n more read =
    let place = (row_follows b row n read).1 in
    let was : nat_le row.after b.commands ≡ true = grind (arith, nat_tests) in
    let is : nat_le row.after c ≡ true = grind (arith, nat_tests) in
    (read.0, read.1, raised_entry b c row read.0 was is ∙ read.2)

-- ---- rows that were read

pub raised : (b d : Reading) (c : ℕ) (rows : List BookRow) (notes : List Note) → b.commands ≤ c
    → AreRead b rows notes d → AreRead (record b { commands = c }) rows notes (record d { commands = c })
raised b d c [] [] more are = ap (λ (r : Reading). let raised : Reading = record r { commands = c } in raised) are
raised b d c (x ∷ rows) (n ∷ notes) more are = (
  raised_read b c x n more are.0,
  raised
      (read_on b n) d c rows notes more are.1,
)
raised b d c [] (n ∷ notes) more are = absurd are
raised b d c (x ∷ rows) [] more are = absurd are

commands_stay : (b d : Reading) (rows : List BookRow) (notes : List Note) → AreRead b rows notes d
    → d.commands ≡ b.commands
commands_stay b d [] [] are = ap (λ (r : Reading). r.commands) are
commands_stay b d (x ∷ rows) (n ∷ notes) are = commands_stay (read_on b n) d rows notes are.1
commands_stay b d [] (n ∷ notes) are = absurd are
commands_stay b d (x ∷ rows) [] are = absurd are

module _ (commands : ℕ) (rows : List BookRow) (notes : List Note) (b : Reading)
    (read : AreRead (first_reading commands) rows notes b) where
  pub commands_are : b.commands ≡ commands
  commands_are = commands_stay (first_reading commands) b rows notes read

  pub notes_are : b.entries ≡ length notes
  notes_are = let count = read-count (first_reading commands) b rows notes read in omega (arith, count.1)

  -- The next row.
  pub next_row : (row : BookRow) (n : Note) → IsRead b row n → row.number ≡ length rows + 1
  next_row row n is =
      let count = read-count (first_reading commands) b rows notes read in
      let number = (row_follows b row n is).0 in
      omega (arith, number, count.0, count.1)

  pub one_more : (row : BookRow) (n : Note) → IsRead b row n → AreRead (first_reading commands) (rows ++ row ∷ [])
      (notes ++ n ∷ []) (read_on b n)
  one_more row n is = read-more (first_reading commands) b (read_on b n) rows notes row n read is refl

  -- The next entry, if it is placed at the end of the history.
  pub next_note : (H : History) (row : BookRow) (n : Note) → IsRead b row n → n.after ≡ length H → IsNextNote H notes n
  next_note H row n is placed =
      let follows = read-follows b row n is in
      record {
        number = omega (arith, follows.number, notes_are);
        place = placed;
        earlier = λ about is. (follows.earlier about is).1;
      }

-- ---- an entry that was made

none_carried : (begun : Bool) (m : Matter) → may_carry begun 0 m ≡ true
none_carried begun (Handling machine slot reel word) = refl
none_carried begun (Stray machine slot reel word) = refl
none_carried begun (Work machine slot board word) = refl
none_carried begun (Unread word) = refl
none_carried begun (Differs machine slot board reel desk_reel) = refl
none_carried begun (Boundary machine slot board reel desk_reel) = refl
none_carried begun (Uncompared machine board) = refl
none_carried begun (Attribute reel name) = refl
none_carried begun (Decision about) = refl
none_carried begun (Hold stock) = refl
none_carried begun (Release stock) = refl
none_carried begun Made = refl
none_carried begun Begun = refl
none_carried begun Restored = refl

module _ (L : Lists) (b : Reading) (read : AreRead (first_reading (length L.kept.history)) L.rows L.notes b)
    (told : List ℕ) (n : Note) (next : IsNextEntry L told n) where
  -- It is the next entry, if some entry was read from its row.
  is_next : (row : BookRow) (x : Note) → IsRead b row x → row.after ≡ n.after → IsNext b n
  is_next row x is placed =
      let it = said b row is.0 x is.2 in
      let follows = follows-read b row is.0 it.0 it.1 it.2 in
      let number : n.number ≡ length L.notes + 1 = ap (λ (n : Note). n.number) next.placed in
      let carries : n.carries ≡ 0 = ap (λ (n : Note). n.carries) next.placed in
      let entries : b.entries ≡ length L.notes = notes_are _ L.rows L.notes b read in
      let before : b.after ≤ row.after = follows.rises in
      let ends : row.after ≤ b.commands = follows.within in
      record {
        follows = record {
          number = omega (arith, number, entries);
          rises = omega (arith, before, placed);
          within = omega (arith, ends, placed);
          earlier = next.earlier;
        };
        carries = ap (λ k. may_carry b.begun k n.matter) carries ∙ none_carried b.begun n.matter;
      }

  -- What is read from its row is this entry.
  pub adds_entry : (sender : Sender) (row : BookRow) → IsRowOf n sender told row
      → ((before : Reading) (named : Option Names) → IsNext before n → IsToldBy told n → HasNames row named
      → entry_in before row named ≡ Ok n) → (M : Lists) (x : Note) → IsRead b row x → M ≡ with_note L row x
      → AddsEntry L n sender told M
  adds_entry sender row is_row back M x is keeps =
      let here : IsNext b n = is_next row x is is_row.after in
      let one : entry_in b row is.0 ≡ Ok n = back b is.0 here next.tells is.1 in
      let two : entry_in b row is.0 ≡ Ok x = is.2 in
      let same : x ≡ n = cc in (row, is_row, keeps ∙ ap (with_note L row) same)

module _ (L : Lists) (n : Note) (sender : Sender) (told : List ℕ) where
  pub known_keeps : is_known L.kept.history L.notes n ≡ true → Keeps L n sender told L
  known_keeps is = subst (λ b. MatchBool b (L ≡ L) (AddsEntry L n sender told L)) (sym is) refl

  pub new_keeps : (M : Lists) → is_known L.kept.history L.notes n ≡ false → AddsEntry L n sender told M
      → Keeps L n sender told M
  new_keeps M is adds = subst (λ b. MatchBool b (M ≡ L) (AddsEntry L n sender told M)) (sym is) adds

  pub some_keeps : (entry : Option Note) (M : Lists) → entry ≡ Some n → Keeps L n sender told M
      → KeepsAny L entry sender told M
  some_keeps entry M is keeps = subst (λ (o : Option Note). KeepsAny L o sender told M) (sym is) keeps

pub none_keeps : (L : Lists) (entry : Option Note) (sender : Sender) (told : List ℕ) → entry ≡ None
    → KeepsAny L entry sender told L
none_keeps L entry sender told is = subst (λ (o : Option Note). KeepsAny L o sender told L) (sym is) refl
