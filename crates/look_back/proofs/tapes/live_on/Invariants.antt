use Rattle.desk_types.proofs.Common.{◌++◌, ◌≡◌, drop, filter, left_of, nat_lt, reverse, tape_of}
use Rattle.look_back.proofs.tapes.live_on.Given as goal

abbrev pub invariant-loop-index : goal.invariant-loop-index
invariant-loop-index l = l.live.items ++ filter (λ reel. nat_lt 0 (left_of (reverse l.entries) reel)) (drop l.index (tape_of (reverse l.entries) l.machine l.slot))
    ≡ filter (λ reel. nat_lt 0 (left_of (reverse l.entries) reel)) (tape_of (reverse l.entries) l.machine l.slot)
