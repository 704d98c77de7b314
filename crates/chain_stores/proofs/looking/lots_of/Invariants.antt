use Rattle.desk_types.proofs.Common.{◌≡◌, take}
use Rattle.line_schema.specs.Stands.{Kept, Stands}
use Rattle.chain_check.specs.Rows.{lots_received}
use Rattle.chain_stores.proofs.looking.lots_of.Given as goal

abbrev pub invariant-loop-reel : goal.invariant-loop-reel
invariant-loop-reel g l = (L : Kept) → Stands g.S.Store g.D.Desk.Stands l.store L
    → l.lots.items ≡ lots_received (take l.reel-index l.reels) L.history
