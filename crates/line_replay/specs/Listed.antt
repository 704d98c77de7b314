-- The history in the rows of `accepted`, and the place where they stop being one. Rows are taken by number; their order
-- does not matter.
use Rattle.std.specs.Prelude.{◌≡◌, ℕ, ◌+◌, ◌<◌, ◌≤◌, ⊤, pos, false, List, [], ◌∷◌, length, filter, Some}
use Rattle.std.specs.List.{list_any}
use Rattle.std.specs.List.Sorted.{IsPermutation}
use Rattle.sqlite_value.specs.Order.{Row}
use Rattle.desk_types.specs.declared.command.Entry.{Entry}
use Rattle.desk_types.specs.declared.rules.Rules.{Rules}
use Rattle.desk_types.specs.History.{History}
use Rattle.desk_types.specs.Judged.{IsLawful}
use Rattle.line_tables.specs.Calls.{has_number, is_before, IsLeast}
use Rattle.line_replay.specs.Rows.{entry_row, rows_of}

-- Exactly one row has the number that follows H, it is that of the entry, and no row of a lower number has its
-- UniqueID.
pub record IsAt (rows : List Row) (H : History) (e : Entry) : Type 0 where
  pub row : filter (has_number (length H + 1)) rows ≡ entry_row H e ∷ []
  pub first : list_any (is_before e.stamped.uid (length H + 1)) rows ≡ false

-- Each entry has its row among the rows.
abbrev pub AreAt : List Row → History → Type 0
AreAt rows [] = ⊤
AreAt rows (e ∷ H) = IsAt rows H e × AreAt rows H

-- The rows begin with those of H: no number is below 1, and the numbers from 1 on are those of its entries.
pub record BeginWith (rows : List Row) (H : History) : Type 0 where
  pub least : 1 ≤ length H → IsLeast rows (Some (pos 1))
  pub entries : AreAt rows H

-- The rows before the place n are those of a lawful history, there are more rows, and no entry continues it.
pub record StopsAt (rules : Rules) (greatest : ℕ) (rows : List Row) (n : ℕ) : Type 0 where
  pub list : History
  pub lawful : IsLawful rules greatest list
  pub begin : BeginWith rows list
  pub place : length list + 1 ≡ n
  pub more : length list < length rows
  pub stops : (e : Entry) → IsLawful rules greatest (e ∷ list) → BeginWith rows (e ∷ list) → ⊥

-- The rows are those of the history, in some order, and the history is lawful.
pub record AreRowsOf (rules : Rules) (greatest : ℕ) (rows : List Row) (H : History) : Type 0 where
  pub lawful : IsLawful rules greatest H
  pub same : IsPermutation rows (rows_of H)
