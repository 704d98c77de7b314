use Rattle.desk_types.proofs.Common.{◌≡◌, AllByRecursion, Name}
use Rattle.chain_check.proofs.SameSlots.{HoldsAtFront}
use Rattle.chain_check.proofs.tapes.slot_in.Given as goal

-- What holds of the mounts that are left holds of all.
abbrev pub invariant-loop-key : goal.invariant-loop-key
invariant-loop-key g l =
    let Good = HoldsAtFront (g.F.Facts.reels_on l.own) (λ (m : Name) (s : Name). g.F.Facts.reels_on l.old m s ≡ g.F.Facts.reels_on l.new m s) in
    AllByRecursion Good l.key-iterator → AllByRecursion Good l.initial.key-iterator
