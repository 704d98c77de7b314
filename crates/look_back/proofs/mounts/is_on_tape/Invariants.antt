use Rattle.desk_types.proofs.Common.{◌≡◌, drop, list_any, reverse, same, tape_of}
use Rattle.look_back.proofs.mounts.is_on_tape.Given as goal

abbrev pub invariant-loop-index : goal.invariant-loop-index
invariant-loop-index l = list_any (same l.reel) (drop l.index (tape_of (reverse l.entries) l.machine l.slot))
    ≡ list_any (same l.reel) (tape_of (reverse l.entries) l.machine l.slot)
