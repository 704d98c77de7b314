use Rattle.desk_types.proofs.Common.{◌<◌, ◌≡◌, ℕ}
use Rattle.std.specs.List.{slice_get}
use Rattle.chain_check.proofs.tapes.same_tape.Given as goal

-- The reels are the same at each index so far.
abbrev pub invariant-loop-i : goal.invariant-loop-i
invariant-loop-i g l =
    (k : ℕ) → k < l.i → slice_get (g.F.Facts.reels_on l.old l.machine l.slot) k ≡ slice_get (g.F.Facts.reels_on l.new l.machine l.slot) k
