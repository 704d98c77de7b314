-- The entry that a row of the table `book` has, and what is wrong with a row.
use Rattle.std.specs.Prelude.{◌≡◌, ℕ, ◌+◌, nat_lt, nat_le, Bool, true, false, ◌&&◌, ◌||◌, ◌==◌, Option, Some, None, List, [], ◌∷◌, codes, string_bytes, find, ok_or, Result, Ok, Err, if◌then◌else◌}
use Rattle.desk_types.specs.Id.{Name, IsId, same}
use Rattle.desk_types.specs.StoredText.{stored_text}
use Rattle.cfx_profile.specs.declared.fault.MessageFault.{MessageFault}
use Rattle.cfx_profile.specs.declared.message.Said.{Said}
use Rattle.cfx_profile.specs.declared.message.Said.TheVariants.{Asked, Ignored}
use Rattle.cfx_profile.specs.Fault.{◌>>=◌}
use Rattle.cfx_profile.specs.Message.{said_in}
use Rattle.line_book.specs.declared.kind.Kind.{Kind}
use Rattle.line_book.specs.declared.kind.Kind.TheVariants as kind
use Rattle.line_book.specs.declared.kind.Names.{Names}
use Rattle.line_book.specs.declared.note.Matter.{Matter}
use Rattle.line_book.specs.declared.note.Matter.TheVariants as matter
use Rattle.line_book.specs.declared.note.Note.{Note}
use Rattle.line_book.specs.declared.note.Stock.TheVariants.{Reel, Lot}
use Rattle.line_book.specs.declared.reading.Reading.{Reading}
use Rattle.line_book.specs.declared.reading.RowFault.{RowFault}
use Rattle.line_book.specs.declared.reading.RowFault.TheVariants.{WrongNumber, WrongPlace, UnknownKind, WrongColumns, WrongOf, WrongTold}
use Rattle.line_book.specs.declared.row.BookRow.{BookRow}

-- ---- columns

-- The text of a kind.
abbrev pub kind_text : Kind → List ℕ
kind_text kind.Handling = codes "handling"
kind_text kind.Stray = codes "stray"
kind_text kind.Work = codes "work"
kind_text kind.Unread = codes "unread"
kind_text kind.Differs = codes "differs"
kind_text kind.Boundary = codes "boundary"
kind_text kind.Uncompared = codes "uncompared"
kind_text kind.Attribute = codes "attribute"
kind_text kind.Decision = codes "decision"
kind_text kind.Hold = codes "hold"
kind_text kind.Release = codes "release"
kind_text kind.Made = codes "made"
kind_text kind.Begun = codes "begun"
kind_text kind.Restored = codes "restored"

abbrev pub kinds : List Kind
kinds = kind.Handling ∷ kind.Stray ∷ kind.Work ∷ kind.Unread ∷ kind.Differs ∷ kind.Boundary
    ∷ kind.Uncompared ∷ kind.Attribute ∷ kind.Decision ∷ kind.Hold ∷ kind.Release ∷ kind.Made
    ∷ kind.Begun ∷ kind.Restored ∷ []

-- The kind with the text.
abbrev pub kind_in : List ℕ → Option Kind
kind_in text = find (λ k. same (kind_text k) text) kinds

-- A column has this name, or is empty and has none.
abbrev pub IsColumn : List ℕ → Option Name → Type 0
IsColumn text None = text ≡ []
IsColumn text (Some name) = (text ≡ name) × IsId name

-- The names in the columns of the row.
pub record AreNames (row : BookRow) (names : Names) : Type 0 where
  pub machine : IsColumn (string_bytes row.machine) names.machine
  pub slot : IsColumn (string_bytes row.slot) names.slot
  pub board : IsColumn (string_bytes row.board) names.board
  pub reel : IsColumn (string_bytes row.reel) names.reel
  pub word : IsColumn (string_bytes row.word) names.word

-- ---- kinds and their columns

-- What an entry of this kind says with these columns: machine, slot, board, reel and word, and the
-- number of the entry that it is about. None if a column is missing or has to be empty.
abbrev pub matter_with : Kind → (machine slot board reel word : Option Name) → ℕ → Option Matter
matter_with kind.Handling (Some m) (Some s) None reel (Some word) of =
    Some (matter.Handling m s reel word)
matter_with kind.Stray (Some m) (Some s) None reel (Some word) of =
    Some (matter.Stray m s reel word)
matter_with kind.Work (Some m) slot board None (Some word) of =
    Some (matter.Work m slot board word)
matter_with kind.Unread None None None None (Some word) of = Some (matter.Unread word)
matter_with kind.Differs (Some m) (Some s) (Some board) (Some reel) (Some desk_reel) of =
    Some (matter.Differs m s board reel desk_reel)
matter_with kind.Boundary (Some m) (Some s) (Some board) (Some reel) (Some desk_reel) of =
    Some (matter.Boundary m s board reel desk_reel)
matter_with kind.Uncompared (Some m) None (Some board) None None of =
    Some (matter.Uncompared m board)
matter_with kind.Attribute None None None (Some reel) (Some name) of =
    Some (matter.Attribute reel name)
matter_with kind.Decision None None None None None of = Some (matter.Decision of)
matter_with kind.Hold None None None (Some reel) None of = Some (matter.Hold (Reel reel))
matter_with kind.Hold None None None None (Some lot) of = Some (matter.Hold (Lot lot))
matter_with kind.Release None None None (Some reel) None of = Some (matter.Release (Reel reel))
matter_with kind.Release None None None None (Some lot) of = Some (matter.Release (Lot lot))
matter_with kind.Made None None None None None of = Some matter.Made
matter_with kind.Begun None None None None None of = Some matter.Begun
matter_with kind.Restored None None None None None of = Some matter.Restored
matter_with _ _ _ _ _ _ _ = None

abbrev pub matter_of : Kind → Names → ℕ → Option Matter
matter_of k names of =
    matter_with k names.machine names.slot names.board names.reel names.word of

-- Whether the entry is about a message that was refused.
abbrev pub is_refusal : Matter → Bool
is_refusal (matter.Handling machine slot reel word) = true
is_refusal (matter.Stray machine slot reel word) = true
is_refusal (matter.Work machine slot board word) = true
is_refusal _ = false

-- The stored text of the command in a message, if it can be read.
abbrev pub command_said : Result Said MessageFault → Option (List ℕ)
command_said (Ok (Asked stamped)) = Some (stored_text stamped.command)
command_said (Ok (Ignored name)) = None
command_said (Err fault) = None

abbrev pub command_in : List ℕ → Option (List ℕ)
command_in told = command_said (said_in told)

-- ---- in turn

-- What is read before the first row.
abbrev pub first_reading : ℕ → Reading
first_reading commands = record { commands = commands; entries = 0; after = 0; begun = false }

-- Whether the number is that of an entry which this one may be about: a decision is about an earlier
-- entry. An entry of a file that was begun from a sealed one may carry on an entry of that file.
abbrev pub is_about : Reading → ℕ → Matter → Bool
is_about before of (matter.Decision about) = nat_lt 0 about && nat_le about before.entries
is_about before of matter.Made = of == 0
is_about before of matter.Begun = of == 0
is_about before of matter.Restored = of == 0
is_about before of _ = (of == 0) || before.begun

-- The number of the entry of the sealed file that the entry carries on, or 0.
abbrev pub carries_by : ℕ → Matter → ℕ
carries_by of (matter.Decision about) = 0
carries_by of _ = of

-- Whether the row is placed after those before it, and within the history.
abbrev pub is_placed : Reading → BookRow → Bool
is_placed before row = nat_le before.after row.after && nat_le row.after before.commands

-- What a repeat of the entry would say too: the stored text of a refused command, or a whole faulty
-- message.
abbrev pub text_of : Matter → List ℕ → Option (List ℕ)
text_of (matter.Unread word) told = Some told
text_of m told = if is_refusal m then command_in told else Some []

-- The names that the row's columns were read as: none if a column is neither empty nor a name.
abbrev pub HasNames : BookRow → Option Names → Type 0
HasNames row (Some names) = AreNames row names
HasNames row None = (names : Names) → AreNames row names → ⊥

abbrev pub test : Bool → RowFault → Result (Unit {0}) RowFault
test true fault = Ok tt
test false fault = Err fault

-- What the row says, read after these rows, or its first fault: its number isn't the next; its place
-- falls or is behind the history; its kind is unknown; a column is missing, has to be empty, or has no
-- name; it can't be about that entry.
unfoldable pub matter_in : Reading → BookRow → Option Names → Result Matter RowFault
matter_in before row named = do
  _ ← test (row.number == before.entries + 1) WrongNumber
  _ ← test (is_placed before row) WrongPlace
  k ← ok_or (kind_in (string_bytes row.kind)) UnknownKind
  names ← ok_or named WrongColumns
  m ← ok_or (matter_of k names row.of) WrongColumns
  _ ← test (is_about before row.of m) WrongOf
  Ok m

-- The entry with these parts.
abbrev pub note_of : BookRow → Matter → List ℕ → Note
note_of row m text = record {
  number = row.number;
  after = row.after;
  carries = carries_by row.of m;
  matter = m;
  text = text;
}

-- The row's entry, or its first fault; the last one is that it tells no message.
unfoldable pub entry_in : Reading → BookRow → Option Names → Result Note RowFault
entry_in before row named = do
  m ← matter_in before row named
  text ← ok_or (text_of m (string_bytes row.told)) WrongTold
  Ok (note_of row m text)

abbrev pub is_begun : Matter → Bool
is_begun matter.Begun = true
is_begun _ = false

-- What the next row is read after.
abbrev pub read_on : Reading → Note → Reading
read_on before n = record {
  commands = before.commands;
  entries = n.number;
  after = n.after;
  begun = before.begun || is_begun n.matter;
}
