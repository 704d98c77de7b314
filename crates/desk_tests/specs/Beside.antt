-- A desk and the rows of its history.
use Rattle.std.specs.Prelude.{◌≡◌, ℕ, ◌+◌, ◌≤◌, length}
use Rattle.desk_types.specs.declared.rules.Rules.TheVariants.{Two}
use Rattle.desk_types.specs.History.{History, Basis, basis}
use Rattle.feeder_state.specs.Restored.{AreRowsOf}
use Rattle.state_rows.specs.Kept.{KeptRows}

-- The desk represents a history, by rules Two, whose tables are these rows, and whose next entry has this number, at most 10,101.
pub record AreOfOneList {D : Type 0} (StandsFor : D → Basis → Type 0) (desk : D) (rows : KeptRows)
    (number : ℕ) : Type 0 where
  pub list : History
  pub stands : StandsFor desk (basis Two list)
  pub tables : AreRowsOf list rows
  pub next : number ≡ length list + 1
  pub bound : number ≤ 10101
