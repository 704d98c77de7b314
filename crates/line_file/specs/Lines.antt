-- Both lists of a store, or of a connection.
use Rattle.std.specs.Prelude.{◌≡◌, ℕ, Bool, Option, Some, None, Result, Ok, Err, length}
use Rattle.sqlite.specs.State.{State}
use Rattle.desk_types.specs.declared.rules.Rules.TheVariants.{Two}
use Rattle.desk_types.specs.History.{Basis, basis}
use Rattle.line_book_store.specs.declared.fault.BookFault.{BookFault}
use Rattle.line_replay.specs.Rows.{ledger_tables}
use Rattle.line_schema.specs.declared.fault.OpenFault.TheVariants as open_fault
use Rattle.line_schema.specs.Opening.{IsFaultBy, IsToldBy}
use Rattle.line_schema.specs.Stands.{Kept}
use Rattle.line_traces.specs.declared.working.Working.{Working}
use Rattle.line_tables.specs.Calls.{Reads}
use Rattle.line_tables.specs.Line.{is_ours}
use Rattle.line_tables.specs.Rows.{Holds}
use Rattle.line_file.specs.declared.fault.ListFault.{ListFault}
use Rattle.line_file.specs.declared.fault.ListFault.TheVariants.{History as AtHistory, Book as AtBook}
use Rattle.line_file.specs.declared.lists.Found.{Found}
use Rattle.line_file.specs.declared.store.Line.{Line}
use Rattle.line_file.specs.Lists.{ReadsLists, IsBookFault}

-- The desk is that of the history, and the lists are those of both.
pub record IsLineOf {D : Type 0} (StandsFor : D → Basis → Type 0) (L : Kept) (with_rows : Bool)
    (Sound : Type 0) (old : State) (line : Line D) : Type 0 where
  pub desk : StandsFor line.desk (basis Two L.history)
  pub count : line.commands ≡ length L.history
  pub lists : ReadsLists L with_rows Sound old (record { lists = line.lists; rows = line.rows })

-- The same of some history, which the committed tables hold if the state is sound.
pub record ReadsLine {D : Type 0} (StandsFor : D → Basis → Type 0) (with_rows : Bool)
    (Sound : Type 0) (old : State) (line : Line D) : Type 0 where
  pub L : Kept
  pub own : L.own ≡ is_ours old.committed.schema
  pub tables : Sound → Reads old (λ db. Holds db (ledger_tables L.greatest L.history))
  pub is : IsLineOf StandsFor L with_rows Sound old line

-- The book is at fault, or memory or the database failed.
abbrev pub IsListFault : Kept → State → ListFault → Type 0
IsListFault L old (AtHistory fault) = fault ≡ open_fault.Unavailable
IsListFault L old (AtBook fault) = IsBookFault (length L.history) old fault

-- The history is at fault. Or the committed tables hold it, and the book is.
abbrev pub ReadsFault : State → ListFault → Type 0
ReadsFault old (AtHistory fault) =
    IsFaultBy Two old fault × IsToldBy Two old fault
ReadsFault old (AtBook fault) = (L : Kept)
    × Reads old (λ db. Holds db (ledger_tables L.greatest L.history))
    × IsBookFault (length L.history) old fault

-- The line of both lists, whose desk is loaded.
abbrev pub line_of : {D : Type 0} → ℕ → Result Found BookFault → Option (Working D)
    → Result (Line D) ListFault
line_of commands (Err fault) working = Err (AtBook fault)
line_of commands (Ok found) None = Err (AtHistory open_fault.Unavailable)
line_of commands (Ok found) (Some w) = Ok (record {
  desk = w.desk;
  lists = found.lists;
  rows = found.rows;
  commands = commands;
})
