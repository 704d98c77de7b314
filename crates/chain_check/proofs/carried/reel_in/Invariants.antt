use Rattle.std.specs.List.{AllByRecursion}
use Rattle.desk_types.specs.declared.row.ReelRow.{ReelRow}
use Rattle.desk_types.specs.Id.{Name}
use Rattle.desk_types.specs.History.{Basis}
use Rattle.desk_types.specs.View.{reel_view}
use Rattle.chain_check.specs.Views.{IsCarried}
use Rattle.chain_check.proofs.carried.reel_in.Given as goal

-- What holds of the reels that are left holds of all.
abbrev pub invariant-loop-reel : goal.invariant-loop-reel
invariant-loop-reel g l = (B B' : Basis) → g.D.Desk.Stands l.old B → g.D.Desk.Stands l.new B'
    → AllByRecursion (λ (e : Name × ReelRow). IsCarried (reel_view B.history e.0) (reel_view B'.history e.0)) l.reel-iterator
    → AllByRecursion (λ (e : Name × ReelRow). IsCarried (reel_view B.history e.0) (reel_view B'.history e.0)) l.initial.reel-iterator
