-- The entries of the book, and the rows that it adds.
use Rattle.std.specs.Prelude.{◌≡◌, ◌+◌, ◌<◌, ℕ, List, MatchBool, None, Option, Some, length, option_map}
use Rattle.desk_types.specs.declared.command.Stamped.{Stamped}
use Rattle.desk_types.specs.StoredText.{stored_text}
use Rattle.cfx_profile.specs.declared.fault.MessageFault.{MessageFault}
use Rattle.desk_answers.specs.declared.answer.Answer.{Answer}
use Rattle.line_book.specs.declared.note.Matter.{Matter}
use Rattle.line_book.specs.declared.note.Matter.TheVariants.{Decision}
use Rattle.line_book.specs.declared.note.Note.{Note}
use Rattle.line_book.specs.declared.row.BookRow.{BookRow}
use Rattle.line_book.specs.Undecided.{is_known}
use Rattle.line_entries.specs.declared.entry.Place.{Place}
use Rattle.line_entries.specs.declared.row.Sender.{Sender}
use Rattle.line_entries.specs.Refusal.{refused}
use Rattle.line_entries.specs.Rows.{IsRowOf, IsToldBy, note_at}
use Rattle.line_entries.specs.Told.{told_text}
use Rattle.line_entries.specs.Unread.{faulty}
use Rattle.book_store.specs.Ended.{with_note}
use Rattle.book_store.specs.Lists.{Lists}

-- ---- entries

-- Where the next entry is written: behind the others, at the end of the history.
abbrev pub place_in : Lists → Place
place_in L = record { number = length L.notes + 1; after = length L.kept.history; carries = 0 }

-- The entry that a faulty message makes, and the one that a command with this answer makes.
abbrev pub fault_entry : Lists → List ℕ → MessageFault → Option Note
fault_entry L told fault =
    option_map (λ (m : Matter). note_at (place_in L) m (told_text told)) (faulty told fault)

abbrev pub refusal_entry : Lists → Stamped → Answer → Option Note
refusal_entry L s answer =
    option_map (λ (m : Matter). note_at (place_in L) m (stored_text s.command))
    (refused L.kept.history s.command answer)

abbrev pub nobody : Sender
nobody = record { source = None; uid = None }

abbrev pub sender_of : Stamped → Sender
sender_of s = record { source = Some s.source; uid = Some s.uid }

-- The entry has the next place, and is read back from these words. A decision is about an earlier one.
pub record IsNextEntry (L : Lists) (told : List ℕ) (n : Note) : Type 0 where
  pub placed : n ≡ note_at (place_in L) n.matter n.text
  pub earlier : (about : ℕ) → n.matter ≡ Decision about → (0 < about) × (about < n.number)
  pub tells : IsToldBy told n

-- ---- rows

-- The book has one more entry. Its row has the sender's words.
abbrev pub AddsEntry : Lists → Note → Sender → List ℕ → Lists → Type 0
AddsEntry L n sender told M = (row : BookRow) × IsRowOf n sender told row × (M ≡ with_note L row n)

-- An entry that is in the book and not closed isn't written again.
abbrev pub Keeps : Lists → Note → Sender → List ℕ → Lists → Type 0
Keeps L n sender told M =
    MatchBool (is_known L.kept.history L.notes n) (M ≡ L) (AddsEntry L n sender told M)

abbrev pub KeepsAny : Lists → Option Note → Sender → List ℕ → Lists → Type 0
KeepsAny L None sender told M = M ≡ L
KeepsAny L (Some n) sender told M = Keeps L n sender told M
