use Rattle.desk_types.proofs.Common.{◌||◌, ◌≡◌, Name}
use Rattle.feeder_state.{proofs.AtRest.has_resting, specs.Sets.is_name_at}
use Rattle.feeder_state.proofs.resting.resting_of.Given as goal

-- The reels that are in, or are left to be put in.
abbrev pub invariant-loop-name : goal.invariant-loop-name
invariant-loop-name l = (p r : Name) → (is_name_at l.resting p r || has_resting l.rows p r l.name-iterator) ≡ has_resting l.rows p r l.initial.name-iterator
