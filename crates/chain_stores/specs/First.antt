-- The desk of a store's first commands.
use Rattle.std.specs.Prelude.{◌≡◌, ◌+◌, ℕ, ◌∷◌, [], IsTrue, length, filter}
use Rattle.sqlite.specs.State.{State}
use Rattle.desk_types.specs.declared.command.Entry.{Entry}
use Rattle.desk_types.specs.declared.rules.Rules.{Rules}
use Rattle.desk_types.specs.History.{History, Basis, basis, IsPrefix}
use Rattle.desk_types.specs.Judged.{IsJudged, IsNext}
use Rattle.line_tables.specs.Calls.{Reads, has_number}
use Rattle.line_tables.specs.Rows.{Holds, accepted_in}
use Rattle.line_replay.specs.Rows.{entry_row, ledger_tables}

-- The desk accepted one more command: the only row of its number is that of an entry that may follow.
pub record TakesNext {D : Type 0} (StandsFor : D → Basis → Type 0) (rules : Rules)
    (Clean : Type 0) (old : State) (H : History) (desk : D) : Type 0 where
  pub entry : Entry
  pub stands : StandsFor desk (basis rules (entry ∷ H))
  pub next : IsNext rules H entry
  pub row : Clean → Reads old
      (λ db. filter (has_number (length H + 1)) (accepted_in db) ≡ entry_row H entry ∷ [])

-- The committed tables, if the connection is open, are those of a judged history.
pub record HoldsHistory (rules : Rules) (old : State) (greatest : ℕ) (G : History) : Type 0 where
  pub judged : IsJudged rules G
  pub tables : IsTrue old.is_open → Holds old.committed (ledger_tables greatest G)

-- The desk is that of the first commands of the history that the committed tables hold, whichever that is, if the disk
-- has not lied.
pub record IsFirst {D : Type 0} (StandsFor : D → Basis → Type 0) (rules : Rules) (Clean : Type 0)
    (old : State) (count : ℕ) (desk : D) : Type 0 where
  pub first : History
  pub stands : StandsFor desk (basis rules first)
  pub judged : IsJudged rules first
  pub counted : length first ≡ count
  pub prefix : (greatest : ℕ) (G : History) → HoldsHistory rules old greatest G → Clean
      → IsPrefix first G
