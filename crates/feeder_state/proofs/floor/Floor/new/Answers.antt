use Rattle.desk_types.proofs.Common.{[], ◌∙◌, ap, by_pair, is_at, lookup, unwrap_or}
use Rattle.feeder_state.proofs.FirstFloor.{live_on-none, none-rests}
use Rattle.feeder_state.proofs.floor.Floor.new.Goals as goal

pub returns : goal.returns
returns c = record {
  tapes = λ machine slot. ap (λ entries. unwrap_or (lookup (is_at (by_pair (machine, slot))) entries) []) c.new.ensures.empty ∙ live_on-none machine slot;
  resting = λ reel rest. none-rests reel _ rest;
}
