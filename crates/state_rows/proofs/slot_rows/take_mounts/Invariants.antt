use Rattle.desk_types.proofs.Common.{◌++◌, ◌≡◌, map, take}
use Rattle.desk_types.specs.declared.edit.RowEdit.TheVariants.{TakeMount}
use Rattle.state_rows.specs.EditsOf.{reel_on_slot}
use Rattle.std.specs.List.{filter_map}
use Rattle.state_rows.proofs.slot_rows.take_mounts.Given as goal

abbrev pub invariant-loop-mount : goal.invariant-loop-mount
invariant-loop-mount l = l.edits.items ≡ l.initial.edits.items ++ map (λ r. TakeMount r) (filter_map (reel_on_slot l.slot) (take l.mount-index l.mounts))
