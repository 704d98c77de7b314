-- What accepting a command with its entries does to both lists.
use Rattle.std.specs.Prelude.{◌≡◌, ◌≢◌, ◌⊎◌, ◌++◌, ◌∷◌, ⊤, ℕ, [], All, Err, List, Option, length}
use Rattle.desk_types.specs.declared.answer.Reply.TheVariants as reply
use Rattle.desk_types.specs.declared.change.Change.{Change}
use Rattle.desk_types.specs.declared.command.Stamped.{Stamped}
use Rattle.desk_types.specs.History.{History}
use Rattle.desk_answers.specs.declared.answer.Answer.{Answer}
use Rattle.desk_answers.specs.Commands.{judged_answer}
use Rattle.line_book.specs.declared.kind.Names.{Names}
use Rattle.line_book.specs.declared.note.Note.{Note}
use Rattle.line_book.specs.declared.reading.Reading.{Reading}
use Rattle.line_book.specs.declared.reading.RowFault.{RowFault}
use Rattle.line_book.specs.declared.reading.RowFault.TheVariants.{WrongPlace}
use Rattle.line_book.specs.declared.row.BookRow.{BookRow}
use Rattle.line_book.specs.Book.{Book}
use Rattle.line_book.specs.Guard.{IsNextNote}
use Rattle.line_book.specs.Rows.{HasNames, entry_in}
use Rattle.line_book_store.specs.Checking.{AreRead, IsRead}
use Rattle.line_schema.specs.Stands.{with_command}
use Rattle.book_store.specs.declared.fault.NoteFault.{NoteFault}
use Rattle.book_store.specs.declared.fault.NoteFault.TheVariants.{NoEntry, Unavailable}
use Rattle.book_store.specs.declared.store.BookStore.{BookStore}
use Rattle.book_store.specs.Lists.{Lists}

-- ---- the entries of a command

-- Each entry is the next one of the book.
abbrev pub AreNextNotes : History → Book → List Note → Type 0
AreNextNotes H B [] = ⊤
AreNextNotes H B (n ∷ ns) = IsNextNote H B n × AreNextNotes H (B ++ n ∷ []) ns

-- The rows are read in turn as these entries, which are placed after so many commands.
pub record ArePlacedAt (before : Reading) (place : ℕ) (rows : List BookRow) (notes : List Note)
    (after : Reading) : Type 0 where
  pub read : AreRead before rows notes after
  pub placed : All (λ (n : Note). n.after ≡ place) notes

-- The row is read as no entry, with this fault, or as one with another place.
abbrev pub IsMisread : Reading → ℕ → BookRow → RowFault → Type 0
IsMisread before place row fault =
    ((named : Option Names) × HasNames row named × (entry_in before row named ≡ Err fault))
    ⊎ ((n : Note) × IsRead before row n × (n.after ≢ place) × (fault ≡ WrongPlace))

-- A row that is no entry at this place has the fault, or memory was refused.
abbrev pub RefusesRow : Reading → ℕ → BookRow → NoteFault → Type 0
RefusesRow before place row (NoEntry fault) = IsMisread before place row fault
RefusesRow before place row Unavailable = ⊤

-- The same of the first of these rows, read in turn.
pub record HasMisread (before : Reading) (place : ℕ) (rows : List BookRow) (fault : RowFault)
    : Type 0 where
  pub first : List BookRow
  pub row : BookRow
  pub others : List BookRow
  pub are : rows ≡ first ++ row ∷ others
  pub notes : List Note
  pub mid : Reading
  pub begin : ArePlacedAt before place first notes mid
  pub misread : IsMisread mid place row fault

abbrev pub RefusesRows : Reading → ℕ → List BookRow → NoteFault → Type 0
RefusesRows before place rows (NoEntry fault) = HasMisread before place rows fault
RefusesRows before place rows Unavailable = ⊤

-- The same of a call that writes nothing then.
abbrev pub Refuses : {S D : Type 0} → BookStore S D → BookStore S D → ℕ → List BookRow
    → NoteFault → Type 0
Refuses old new place rows (NoEntry fault) =
    HasMisread old.reading place rows fault × (new ≡ old)
Refuses old new place rows Unavailable = ⊤

-- ---- both lists

-- One more command, and the entries about it, which the rows say.
abbrev pub with_both : Lists → Stamped → List BookRow → List Note → Lists
with_both L s rows notes = record {
  kept = with_command L.kept s;
  rows = L.rows ++ rows;
  notes = L.notes ++ notes;
}

-- The command of the change has this answer. The rows are read as entries at the end of the history
-- before it, and both lists have the command and these entries.
pub record KeepsCommand (L : Lists) (before : Reading) (change : Change) (rows : List BookRow)
    (told : Answer) (M : Lists) : Type 0 where
  pub answer : told ≡ judged_answer L.kept.history change.stamped (reply.Accepted change.detail)
  pub notes : List Note
  pub after : Reading
  pub are : ArePlacedAt before (length L.kept.history) rows notes after
  pub lists : M ≡ with_both L change.stamped rows notes
