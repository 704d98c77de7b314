-- What both lists keep of what somebody said.
use Rattle.std.specs.Prelude.{◌≡◌, nat_lt, ℕ, Bool, true, false, ◌&&◌, [], List}
use Rattle.line_book.specs.declared.note.Matter.{Matter}
use Rattle.line_book.specs.declared.note.Matter.TheVariants.{Decision, Hold, Release}
use Rattle.line_book.specs.declared.note.Note.{Note}
use Rattle.line_entries.specs.Rows.{note_at}
use Rattle.book_store.specs.Lists.{Lists}
use Rattle.book_store.specs.Noted.{AddsEntry, nobody, place_in}

-- Whether somebody may say this in the entry with the number: a decision about an earlier entry, a
-- hold, or a release.
abbrev pub may_say : Matter → ℕ → Bool
may_say (Decision about) number = nat_lt 0 about && nat_lt about number
may_say (Hold stock) number = true
may_say (Release stock) number = true
may_say _ number = false

-- The entry of what somebody says: the next one, at the end of the history.
abbrev pub said_entry : Lists → Matter → Note
said_entry L m = note_at (place_in L) m []

-- The book has this entry more, with the number. Its row has what was said.
abbrev pub Says : Lists → Matter → List ℕ → ℕ → Lists → Type 0
Says L m told number M =
    (number ≡ (said_entry L m).number) × AddsEntry L (said_entry L m) nobody told M
