-- The answer that says whether a machine may work, and why not.
use Rattle.std.specs.Prelude.{◌≡◌, ℕ, Option, Some, None, List, [], ◌∷◌, map, length, codes, if◌then◌else◌}
use Rattle.serde_json.specs.Data.{Data, null, number, string, array, object, member, no_members, unsigned}
use Rattle.serde_json.specs.View.{items_of}
use Rattle.serde_json.specs.Written.{compact_text}
use Rattle.desk_types.specs.History.{History}
use Rattle.desk_types.specs.Id.{Name}
use Rattle.desk_types.specs.View.{has_sheet}
use Rattle.desk_types.specs.Work.{in_work_on}
use Rattle.desk_answers.specs.Texts.{refusal_word}
use Rattle.line_book.specs.declared.cause.Cause.{Cause}
use Rattle.line_book.specs.declared.cause.Cause.TheVariants.{NoWork, Open, NoSheet, AtSlot, Held}
use Rattle.line_book.specs.declared.note.Matter.{Matter}
use Rattle.line_book.specs.declared.note.Matter.TheVariants.{Handling, Stray, Work, Differs}
use Rattle.line_book.specs.declared.note.Note.{Note}
use Rattle.line_book.specs.Book.{Book}
use Rattle.line_book.specs.Causes.{causes}
use Rattle.line_book.specs.Rows.{kind_text}
use Rattle.line_entries.specs.Columns.{kind_of}
use Rattle.line_answers.specs.declared.state.Point.{Point}

-- ---- what an open entry is about

-- The slot that the entry names.
abbrev pub slot_in : Matter → Option Name
slot_in (Handling machine slot reel word) = Some slot
slot_in (Stray machine slot reel word) = Some slot
slot_in (Work machine slot board word) = slot
slot_in (Differs machine slot board reel desk_reel) = Some slot
slot_in _ = None

-- The reel that the entry names. Of a difference it is the machine's.
abbrev pub reel_in : Matter → Option Name
reel_in (Handling machine slot reel word) = reel
reel_in (Stray machine slot reel word) = reel
reel_in (Differs machine slot board reel desk_reel) = Some reel
reel_in _ = None

-- The refusal of the message that the entry is about.
abbrev pub refusal_in : Matter → Option Name
refusal_in (Handling machine slot reel word) = Some word
refusal_in (Stray machine slot reel word) = Some word
refusal_in (Work machine slot board word) = Some word
refusal_in _ = None

-- ---- a cause

-- A name, or null without one.
abbrev pub name_or_null : Option Name → Data
name_or_null None = null
name_or_null (Some name) = string name

-- A cause that names nothing.
abbrev pub plain_object : List ℕ → Data
plain_object cause = object (member (codes "Cause") (string cause) no_members)

-- An open entry: its number, its kind, and what it is about.
abbrev pub entry_object : ℕ → Matter → Data
entry_object n matter =
    object (member (codes "Cause") (string (codes "Open"))
    (member (codes "Entry") (number (unsigned n))
    (member (codes "Kind") (string (kind_text (kind_of matter)))
    (member (codes "Reel") (name_or_null (reel_in matter))
    (member (codes "Refusal") (name_or_null (refusal_in matter))
    (member (codes "Slot") (name_or_null (slot_in matter)) no_members))))))

-- A slot whose front a start of work would refuse. An empty slot has no reel.
abbrev pub slot_object : Name → Option Name → List ℕ → Data
slot_object slot reel refusal =
    object (member (codes "Cause") (string (codes "AtSlot"))
    (member (codes "Reel") (name_or_null reel)
    (member (codes "Refusal") (string refusal)
    (member (codes "Slot") (string slot) no_members))))

-- A slot whose front is held, itself or its lot, by the entry with the number.
abbrev pub held_object : Name → Name → ℕ → Data
held_object slot reel n =
    object (member (codes "Cause") (string (codes "Held"))
    (member (codes "Entry") (number (unsigned n))
    (member (codes "Reel") (string reel)
    (member (codes "Slot") (string slot) no_members))))

abbrev pub cause_object : Cause → Data
cause_object NoWork = plain_object (codes "NoWork")
cause_object (Open n) = entry_object n.number n.matter
cause_object NoSheet = plain_object (codes "NoSheet")
cause_object (AtSlot slot reel refusal) = slot_object slot reel (refusal_word refusal)
cause_object (Held slot reel n) = held_object slot reel n

-- ---- a machine

-- Whether a machine with these causes may work: it may with none.
abbrev pub state_word : List Cause → List ℕ
state_word [] = codes "go"
state_word (cause ∷ others) = codes "stop"

-- The machine's board in work, its causes in their order, the number of accepted commands, and
-- whether it may work.
abbrev pub state_object : Name → Point → List Cause → Data
state_object machine point found =
    object (member (codes "Answer") (string (codes "State"))
    (member (codes "Board") (name_or_null point.board)
    (member (codes "Causes") (array (items_of (map cause_object found)))
    (member (codes "Machine") (string machine)
    (member (codes "Number") (number (unsigned point.number))
    (member (codes "State") (string (state_word found)) no_members))))))

unfoldable pub text_with : Name → Point → List Cause → List ℕ
text_with machine point found = compact_text (state_object machine point found)

-- The end of the history, on this machine: its number of commands, and the board in work.
abbrev pub end_of : History → Name → Point
end_of H machine = record { number = length H; board = in_work_on H machine }

-- The text of the answer, if some sheet is for the machine.
abbrev pub state_text : History → Book → Name → Option (List ℕ)
state_text H B machine = if has_sheet H machine
    then Some (text_with machine (end_of H machine) (causes H B machine)) else None
