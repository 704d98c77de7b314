-- The results of a replay.
use Rattle.std.specs.Prelude.{◌≡◌, ◌⊎◌, ℕ, ◌+◌, ◌≤◌, ⊤, pos, Bool, true, false, List, [], ◌∷◌, length, filter, Some}
use Rattle.std.specs.List.{list_any}
use Rattle.sqlite_value.specs.Order.{Row}
use Rattle.sqlite.specs.Effect.{Database}
use Rattle.sqlite.specs.State.{State}
use Rattle.desk_types.specs.declared.command.Entry.{Entry}
use Rattle.desk_types.specs.declared.rules.Rules.{Rules}
use Rattle.desk_types.specs.History.{History, Basis, basis}
use Rattle.desk_types.specs.Judged.{IsJudged, IsNext}
use Rattle.line_tables.specs.Line.{IsOurs}
use Rattle.line_tables.specs.Rows.{accepted_in}
use Rattle.line_tables.specs.Calls.{Reads, has_number, is_before, IsLeast}
use Rattle.line_replay.specs.declared.fault.ReplayFault.{ReplayFault}
use Rattle.line_replay.specs.declared.fault.ReplayFault.TheVariants.{NotLawful, Unavailable}
use Rattle.line_replay.specs.Listed.{IsAt, AreAt, StopsAt, AreRowsOf}
use Rattle.line_replay.specs.Expected.{Expected, AreExpected, Adds}
use Rattle.line_replay.specs.Judging.{GoesOn, Lead}
use Rattle.desk_types.specs.Edits.{with_edits}
use Rattle.state_rows.specs.Kept.{KeptRows, tables_in, but_placements}
use Rattle.desk_types.specs.declared.edit.RowEdit.{RowEdit}
use Rattle.state_rows.specs.declared.lists.TraceLists.{TraceLists}
use Rattle.state_rows.specs.Lists.{IsListed}

-- The desk represents a judged history of this length, within the greatest number, and the expected rows are the
-- history's. On a clean disk the history is lawful, and the committed rows of `accepted` are its rows.
pub record IsReplayed {D : Type 0} (StandsFor : D → Basis → Type 0) (rules : Rules)
    (greatest : ℕ) (Clean : Type 0) (old : State) (desk : D) (expected : Expected) (count : ℕ)
    (H : History) : Type 0 where
  pub stands : StandsFor desk (basis rules H)
  pub judged : IsJudged rules H
  pub counted : length H ≡ count
  pub within : length H ≤ greatest
  pub rows : Clean → Reads old (λ db. AreRowsOf rules greatest (accepted_in db) H)
  pub others : AreExpected Clean old.committed expected H

-- The meaning of a fault for the committed rows.
abbrev pub IsFaultOf : Rules → ℕ → State → ReplayFault → Type 0
IsFaultOf rules greatest old (NotLawful n) =
    Reads old (λ db. StopsAt rules greatest (accepted_in db) n)
IsFaultOf rules greatest old Unavailable = ⊤

-- ---- during the replay

-- A desk with its trace indexes represents a basis if the desk does, and the indexes list its history.
abbrev pub StandsListed : {D : Type 0} → (D → Basis → Type 0) → D × TraceLists → Basis → Type 0
StandsListed StandsFor it B = StandsFor it.0 B × IsListed it.1 B.history

-- There is no row, or the least number is 1.
abbrev pub IsNumbered : List Row → Type 0
IsNumbered rows = (rows ≡ []) ⊎ IsLeast rows (Some (pos 1))

-- Exactly one row has the number that follows H, and it is that of no valid next entry.
pub record IsStuck (rules : Rules) (H : History) (rows : List Row) : Type 0 where
  pub row : Row
  pub there : filter (has_number (length H + 1)) rows ≡ row ∷ []
  pub stuck : (e : Entry) → IsNext rules H e → IsAt rows H e → ⊥

-- A row was taken with these edits of the state tables: the desk represents the history with its entry, and no row of a
-- lower number has its UniqueID.
pub record Accepts {D : Type 0} (StandsFor : D → Basis → Type 0) (B : Basis) (Clean : Type 0)
    (old : State) (number : ℕ) (row : Row) (desk : D) (edits : List RowEdit)
    (before after : KeptRows) : Type 0 where
  pub entry : Entry
  pub stands : StandsFor desk (record B { history = entry ∷ B.history })
  pub goes : GoesOn B.rules B.history row entry
  pub lead : Lead edits B.history entry
  pub rows : tables_in after
      ≡ but_placements (with_edits edits (tables_in before)) (tables_in before)
  pub first : Clean → Reads old
      (λ db. list_any (is_before entry.stamped.uid number) (accepted_in db) ≡ false)

-- One more entry is taken.
pub record Takes {D : Type 0} (StandsFor : D → Basis → Type 0) (B : Basis) (Clean : Type 0)
    (old : State) (desk : D) (before after : Expected) : Type 0 where
  pub entry : Entry
  pub stands : StandsFor desk (record B { history = entry ∷ B.history })
  pub next : IsNext B.rules B.history entry
  pub row : Clean → Reads old (λ db. IsAt (accepted_in db) B.history entry)
  pub edits : List RowEdit
  pub lead : Lead edits B.history entry
  pub adds : Adds Clean old edits before after

-- A row was taken, or there is no row of the next number, and the desk represents the history.
abbrev pub Goes : {D : Type 0} → (D → Basis → Type 0) → Basis → Type 0 → State → Expected
    → D → Expected → Bool → Type 0
Goes StandsFor B Clean old before desk after true = Takes StandsFor B Clean old desk before after
Goes StandsFor B Clean old before desk after false = StandsFor desk B × (Clean → Reads old
    (λ db. filter (has_number (length B.history + 1)) (accepted_in db) ≡ [])) × (after ≡ before)

-- The desk represents a judged history of this length, and the expected rows are the history's. On a clean disk each
-- entry has its row in our schema's table.
pub record IsTaken {D : Type 0} (StandsFor : D → Basis → Type 0) (B : Basis) (Clean : Type 0)
    (db : Database) (desk : D) (expected : Expected) (count : ℕ) : Type 0 where
  pub stands : StandsFor desk B
  pub judged : IsJudged B.rules B.history
  pub counted : length B.history ≡ count
  pub rows : Clean → IsOurs db.schema → AreAt (accepted_in db) B.history
  pub others : AreExpected Clean db expected B.history

-- All numbers are taken, or there is no row of the next one.
abbrev pub IsEnd : ℕ → State → ℕ → Type 0
IsEnd greatest old count = (count ≡ greatest)
    ⊎ Reads old (λ db. filter (has_number (count + 1)) (accepted_in db) ≡ [])

-- The place where no entry continues a judged history whose entries have their rows.
abbrev pub IsStop : Rules → ℕ → State → ℕ → Type 0
IsStop rules greatest old n = (H : History) × IsJudged rules H × (length H + 1 ≡ n) × (n ≤ greatest)
    × Reads old (λ db. AreAt (accepted_in db) H × IsStuck rules H (accepted_in db))

-- The rows up to this number were taken, within the greatest number: the desk represents their
-- history. On a clean disk no row follows.
pub record TakesAll {D : Type 0} (StandsFor : D → Basis → Type 0) (rules : Rules) (greatest : ℕ)
    (Clean : Type 0) (old : State) (desk : D) (expected : Expected) (count : ℕ) : Type 0 where
  pub history : History
  pub within : count ≤ greatest
  pub taken : IsTaken StandsFor (basis rules history) Clean old.committed desk expected count
  pub ends : Clean → IsEnd greatest old count
