use Rattle.desk_types.proofs.Common.{◌∙◌, ◌≡◌, arith, now_of, receipt_by, refl, Some, sym}
use Rattle.desk_laws.proofs.Judgements.{untouched}
use Rattle.look_back.proofs.HandledReels.{received}
use Rattle.std.proofs.Math.Nat.{le-max_left}
use Rattle.look_back.proofs.floor_life.received_reel.Goals as goal

pub returns : goal.returns
returns c H judged none =
    let entry = c.args.entry.now in
    let says : receipt_by c.args.name.now entry.effective entry.stamped.command ≡ Some c.in_ok-said.said = sym c.receipt_by.ensures ∙ c.in_ok-said.was in
    let command = received c.args.name.now entry.effective entry.stamped.command c.in_ok-said.said says in (
      c.receive.ensures.stands H entry (untouched H c.args.name.now judged.1 none) command refl,
      omega (arith, c.receive.ensures.last, le-max_left entry.effective (now_of H)),
    )
