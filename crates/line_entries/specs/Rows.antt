-- The row of a new entry.
use Rattle.std.specs.Prelude.{◌≡◌, ℕ, Bool, ◌||◌, ◌==◌, true, Some, List, string_bytes}
use Rattle.line_book.specs.declared.note.Matter.{Matter}
use Rattle.line_book.specs.declared.note.Matter.TheVariants.{Unread, Decision, Made, Begun, Restored}
use Rattle.line_book.specs.declared.note.Note.{Note}
use Rattle.line_book.specs.declared.reading.Reading.{Reading}
use Rattle.line_book.specs.declared.row.BookRow.{BookRow}
use Rattle.line_book.specs.Restored.{Follows}
use Rattle.line_book.specs.Rows.{IsColumn, is_refusal, kind_text, text_of}
use Rattle.line_entries.specs.declared.columns.Columns.{Columns}
use Rattle.line_entries.specs.declared.entry.Place.{Place}
use Rattle.line_entries.specs.declared.row.Sender.{Sender}
use Rattle.line_entries.specs.Columns.{columns_of, kind_of, of_number}
use Rattle.line_entries.specs.Told.{told_text}

-- The entry at the place.
abbrev pub note_at : Place → Matter → List ℕ → Note
note_at place matter text = record {
  number = place.number;
  after = place.after;
  carries = place.carries;
  matter = matter;
  text = text;
}

-- The row has these names in its columns.
pub record HasColumns (columns : Columns) (row : BookRow) : Type 0 where
  pub machine : IsColumn (string_bytes row.machine) columns.machine
  pub slot : IsColumn (string_bytes row.slot) columns.slot
  pub board : IsColumn (string_bytes row.board) columns.board
  pub reel : IsColumn (string_bytes row.reel) columns.reel
  pub word : IsColumn (string_bytes row.word) columns.word

-- The row is that of the entry, which came from this sender with these words.
pub record IsRowOf (n : Note) (sender : Sender) (words : List ℕ) (row : BookRow) : Type 0 where
  pub number : row.number ≡ n.number
  pub after : row.after ≡ n.after
  pub kind : string_bytes row.kind ≡ kind_text (kind_of n.matter)
  pub source : IsColumn (string_bytes row.source) sender.source
  pub uid : IsColumn (string_bytes row.uid) sender.uid
  pub columns : HasColumns (columns_of n.matter) row
  pub of : row.of ≡ of_number n.carries n.matter
  pub told : string_bytes row.told ≡ told_text words

-- ---- reading it again

-- Whether an entry in this book may carry on the entry of a sealed file with the number, or carries
-- none, which is 0.
abbrev pub may_carry : Bool → ℕ → Matter → Bool
may_carry begun carries (Decision about) = carries == 0
may_carry begun carries Made = carries == 0
may_carry begun carries Begun = carries == 0
may_carry begun carries Restored = carries == 0
may_carry begun carries _ = (carries == 0) || begun

-- The entry is the next one after the rows so far.
pub record IsNext (before : Reading) (n : Note) : Type 0 where
  pub follows : Follows before.commands before.entries before.after n
  pub carries : may_carry before.begun n.carries n.matter ≡ true

-- Whether the entry is about a message that was refused or faulty.
abbrev pub is_about_message : Matter → Bool
is_about_message (Unread word) = true
is_about_message matter = is_refusal matter

-- The words say what the entry has of them: a refused command, or a faulty message.
abbrev pub IsToldBy : List ℕ → Note → Type 0
IsToldBy told n = text_of n.matter (told_text told) ≡ Some n.text
