-- The entries of an accepted message.
use Rattle.std.specs.Prelude.{◌≡◌, ◌+◌, ⊤, nat_lt, ℕ, Err, List, [], ◌∷◌, length, Ok, Result, if◌then◌else◌}
use Rattle.cfx_profile.specs.declared.fault.MessageFault.{MessageFault}
use Rattle.cfx_profile.specs.declared.message.Said.{Said}
use Rattle.cfx_profile.specs.declared.message.Said.TheVariants.{Asked, Ignored}
use Rattle.desk_answers.specs.Commands.{command_after}
use Rattle.desk_types.specs.declared.command.Stamped.{Stamped}
use Rattle.desk_types.specs.declared.rules.Rules.{Rules}
use Rattle.desk_types.specs.History.{History}
use Rattle.desk_types.specs.Outcome.{change_of}
use Rattle.desk_types.specs.Tape.{tape_of}
use Rattle.line_book.specs.declared.note.Note.{Note}
use Rattle.line_book.specs.declared.row.BookRow.{BookRow}
use Rattle.line_entries.specs.declared.entry.Place.{Place}
use Rattle.line_entries.specs.declared.row.Sender.{Sender}
use Rattle.line_entries.specs.Rows.{IsRowOf, note_at}
use Rattle.line_members.specs.declared.finding.Finding.{Finding}
use Rattle.line_members.specs.Accepted.{accepted}
use Rattle.book_store.specs.Lists.{Lists}
use Rattle.book_store.specs.Noted.{AddsEntry, place_in}

-- ---- findings

-- The findings in a message whose command adds to the history. Any other command has none.
abbrev pub findings_of : Rules → ℕ → History → List ℕ → Stamped → List Finding
findings_of rules greatest H told s =
    if nat_lt (length H) (length (command_after rules greatest H s))
    then accepted told (tape_of H) (change_of H s) else []

abbrev pub findings_in : Rules → ℕ → History → List ℕ → Result Said MessageFault → List Finding
findings_in rules greatest H told (Ok (Asked s)) = findings_of rules greatest H told s
findings_in rules greatest H told (Ok (Ignored name)) = []
findings_in rules greatest H told (Err fault) = []

-- ---- their entries

abbrev pub finding_note : Place → Finding → Note
finding_note place f = note_at place f.matter []

-- The book has one more entry for each finding, in their order.
abbrev pub AddsFindings : Lists → List Finding → Sender → Lists → Type 0
AddsFindings L [] sender M = M ≡ L
AddsFindings L (f ∷ fs) sender M = (N : Lists)
    × AddsEntry L (finding_note (place_in L) f) sender f.told N × AddsFindings N fs sender M

abbrev pub place_after : Place → Place
place_after place = record place { number = place.number + 1 }

-- The rows of the findings, from this place on.
abbrev pub AreRowsOf : Place → List Finding → Sender → List BookRow → Type 0
AreRowsOf place [] sender [] = ⊤
AreRowsOf place (f ∷ fs) sender (row ∷ rows) =
    IsRowOf (finding_note place f) sender f.told row × AreRowsOf (place_after place) fs sender rows
AreRowsOf place _ sender _ = ⊥
