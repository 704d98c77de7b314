-- The entries that wait for a decision, and refusals that are known.
use Rattle.std.specs.Prelude.{Bool, true, false, not, ◌&&◌, List, filter, if◌then◌else◌}
use Rattle.std.specs.List.{list_any}
use Rattle.desk_types.specs.Id.{same}
use Rattle.desk_types.specs.History.{History}
use Rattle.line_book.specs.declared.note.Matter.{Matter}
use Rattle.line_book.specs.declared.note.Matter.TheVariants.{Handling, Stray, Work, Unread, Differs, Uncompared}
use Rattle.line_book.specs.declared.note.Note.{Note}
use Rattle.line_book.specs.Book.{Book, is_fault, is_open, is_decided}

-- Whether somebody has to decide about an entry of this kind, even once the machine works again:
-- pieces may be on a board that the history doesn't have, or from another reel than it has.
abbrev pub needs_decision : Matter → Bool
needs_decision (Work machine slot board word) = true
needs_decision (Unread word) = true
needs_decision (Differs machine slot board reel desk_reel) = true
needs_decision (Uncompared machine board) = true
needs_decision _ = false

-- Whether the entry waits for a decision. A recall isn't complete while one does.
abbrev pub is_undecided : Book → Note → Bool
is_undecided B n = needs_decision n.matter && not (is_decided B n)

-- The entries that wait for a decision, oldest first.
abbrev pub undecided : Book → List Note
undecided B = filter (is_undecided B) B

-- ---- a refusal that is sent again

-- Whether both are refusals, or faulty messages, of the same kind with the same word.
abbrev pub same_refusal : Matter → Matter → Bool
same_refusal (Handling m s reel word) (Handling m' s' reel' word') = same word word'
same_refusal (Stray m s reel word) (Stray m' s' reel' word') = same word word'
same_refusal (Work m s board word) (Work m' s' board' word') = same word word'
same_refusal (Unread word) (Unread word') = same word word'
same_refusal _ _ = false

-- Whether the entries are of one refusal: the same kind, word and command, whatever their envelopes.
-- A faulty message is the same if all of it is.
abbrev pub repeats : Note → Note → Bool
repeats a b = same_refusal a.matter b.matter && same a.text b.text

-- Whether the book has the refusal in an entry that still stands: one that is open or, of a kind that
-- stops nothing, one that waits for a decision. It then isn't written again. Refused work that a later
-- start has closed is written again, so that it stops the machine again.
abbrev pub is_known : History → Book → Note → Bool
is_known H B n = list_any (repeats n)
    (if is_fault n.matter then filter (is_open H B) B else undecided B)
