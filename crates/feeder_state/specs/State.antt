-- The histories that a state represents.
use Rattle.std.specs.Prelude.{◌≡◌}
use Rattle.desk_types.specs.History.{History, Basis, desk_minute}
use Rattle.desk_types.specs.Judged.{IsJudged}
use Rattle.feeder_state.specs.declared.desk.StateDesk.{StateDesk}
use Rattle.desk_types.specs.Tables.{tables_of}
use Rattle.state_rows.specs.Kept.{tables_in, unnumbered}
use Rattle.feeder_state.specs.Floor.{IsFloor}
use Rattle.feeder_state.specs.Setup.{IsSetup}
use Rattle.feeder_state.specs.Work.{IsWork}

-- A desk of these rules can come to have the list, which left the minute, the rows, the sheets, the floor and the work.
pub record IsState (H : History) (desk : StateDesk) : Type 0 where
  pub judged : IsJudged desk.rules H
  pub minute : desk.minute ≡ desk_minute H
  pub rows : unnumbered (tables_in desk.rows) ≡ unnumbered (tables_of H)
  pub setup : IsSetup H desk.setup
  pub floor : IsFloor H desk.floor
  pub work : IsWork H desk.work

-- The desk has these rules, and can come to have this history.
pub record Represents (desk : StateDesk) (B : Basis) : Type 0 where
  pub rules : desk.rules ≡ B.rules
  pub state : IsState B.history desk
