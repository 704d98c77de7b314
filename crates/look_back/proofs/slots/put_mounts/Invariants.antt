use Rattle.desk_types.proofs.Common.{◌++◌, ◌≡◌, enumerate_from, map, mount_of, reverse, take}
use Rattle.look_back.proofs.slots.put_mounts.Given as goal

abbrev pub invariant-loop-index : goal.invariant-loop-index
invariant-loop-index l = l.mounts.items
    ≡ l.initial.mounts.items ++ map (mount_of (reverse l.entries) l.slot) (enumerate_from 1 (take l.index l.reels))
