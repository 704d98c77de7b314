use Rattle.desk_types.proofs.Common.{◌||◌, ◌≡◌, by_name, History, is_placed_on, list_any, Name, same}
use Rattle.feeder_state.{proofs.PlacedDesignators.is_spot, specs.Restored.AreRowsOf, specs.Restored.group_at}
use Rattle.feeder_state.proofs.work.rows.designators_of.Given as goal

-- The designators that are gathered, or are left to gather.
abbrev pub invariant-loop-row : goal.invariant-loop-row
invariant-loop-row l = (H : History) → AreRowsOf H l.rows → (b d : Name) → (list_any (same d) (group_at by_name l.groups b) || is_spot b d l.row-iterator) ≡ is_placed_on H b d
