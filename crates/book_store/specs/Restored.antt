-- The guard of a file's two lists, made again.
use Rattle.std.specs.Prelude.{◌≡◌, ◌⊎◌, ◌+◌, nat_le, ℕ, IsTrue, List, [], ◌∷◌, length, if◌then◌else◌}
use Rattle.sqlite.specs.State.{State}
use Rattle.desk_types.specs.History.{History}
use Rattle.line_book.specs.declared.guard.Guard.{Guard}
use Rattle.line_book.specs.declared.note.Note.{Note}
use Rattle.line_book.specs.declared.reading.Reading.{Reading}
use Rattle.line_book.specs.declared.row.BookRow.{BookRow}
use Rattle.line_book.specs.Guard.{IsGuard}
use Rattle.line_book.specs.Rows.{first_reading}
use Rattle.line_book_store.specs.declared.fault.BookFault.{BookFault}
use Rattle.line_book_store.specs.declared.fault.BookFault.TheVariants.{Unavailable, WrongEntry}
use Rattle.line_book_store.specs.Checking.{AreRead, StopsAt}
use Rattle.line_book_store.specs.Reading.{ReadsAll, ReadsShelf}
use Rattle.line_schema.specs.Stands.{Kept}
use Rattle.book_store.specs.declared.restoring.Restored.{Restored}

-- The history when it had at most so many commands.
abbrev pub history_until : ℕ → History → History
history_until n [] = []
history_until n (e ∷ H) = if nat_le (length H + 1) n then e ∷ H else history_until n H

-- The rows are read as entries of a book of the history. If the disk is honest, they are all rows of
-- the committed book; if the tables are the store's own too, the guard is that of both lists.
pub record IsRestored (L : Kept) (Clean : Type 0) (old : State) (r : Restored) : Type 0 where
  pub rows : List BookRow
  pub notes : List Note
  pub read : AreRead (first_reading (length L.history)) rows notes r.reading
  pub all : Clean → ReadsAll old rows
  pub guard : Clean → IsTrue L.own → IsGuard L.history notes r.guard

-- The guard is that of both lists, if the disk is honest and the tables are the store's own.
abbrev pub GuardsFile : Kept → Type 0 → State → Guard → Type 0
GuardsFile L Clean old guard =
    (reading : Reading) × IsRestored L Clean old (record { guard = guard; reading = reading })

-- Memory was refused or the database failed, or this is the first number whose entry is missing, can't
-- be read, or can't follow those before it.
abbrev pub IsWrong : ℕ → State → BookFault → Type 0
IsWrong commands old fault = (fault ≡ Unavailable) ⊎ ((n : ℕ) × (fault ≡ WrongEntry n)
    × ReadsShelf old (λ rows. StopsAt commands rows n))
