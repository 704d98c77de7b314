use Rattle.desk_types.proofs.Common.{◌≡◌, is_live_where_loaded, list_any, reverse, take}
use Rattle.look_back.proofs.mounts.is_mounted.Given as goal

abbrev pub invariant-loop-entry : goal.invariant-loop-entry
invariant-loop-entry l = l.mounted
    ≡ list_any (λ e. is_live_where_loaded (reverse l.entries) l.reel e.stamped.command) (reverse (take l.entry-index l.entries))
