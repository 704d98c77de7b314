use Rattle.desk_types.proofs.Common.{◌∙◌, ◌≡◌, ap, bench_of, refl, slot_on, Some, sym}
use Rattle.desk_laws.proofs.Common.{ReelShort}
use Rattle.judging.proofs.PlacedInTurn.{not-refused, pick-found, pick-none, refused-short}
use Rattle.judging.specs.{Placing.pick_of, declared.placing.Feeder.Feeder}
use Rattle.setup_sheets.proofs.SeenNames.{HasSeen-push, was-new}
use Rattle.judging.proofs.placing.place.Goals as goal

pub returns : goal.returns
returns g c = λ H before stands feeding seen.
    let d = c.args.designator.now in
    let machine = c.args.machine.now in
    let bench = bench_of H machine c.args.board.now in
    let piece : Feeder = record { slot = c.in-Some.slot; reel = c.in-Some-2.reel } in
    let slot : slot_on H machine d ≡ Some piece.slot = sym (c.slot_for.ensures H stands) ∙ c.in-Some.is in
    let new = was-new c.args.seen.now before.designators d c.in_ok-is_added.field-0 seen c.in_ok-is_added.ensures.added c.if-not-branch.false in
    let front = sym (c.in_ok-reel.ensures.front H before.picks stands feeding) ∙ c.in-Some-2.is in
    let pick = pick-found bench before d piece slot front in (
      not-refused d piece.slot _ _ _ _ (pick_of bench d piece) slot new (sym (c.has_placed.ensures H stands) ∙ c.if-has_placed.false) pick,
      pick,
      c.in_ok-reel.ensures.feeds H before.picks (pick_of bench d piece) stands feeding (c.in-Some-2.is, refl),
      HasSeen-push c.args.seen.now c.is_added.new.set d before.designators seen c.in_ok-is_added.ensures.updates.0,
    )

pub returns-in_default-2 : goal.returns-in_default-2
returns-in_default-2 g c = λ H before stands feeding seen.
    let d = c.args.designator.now in
    let machine = c.args.machine.now in
    let bench = bench_of H machine c.args.board.now in
    let slot : slot_on H machine d ≡ Some c.in-Some.slot = sym (c.slot_for.ensures H stands) ∙ c.in-Some.is in
    let new = was-new c.args.seen.now before.designators d c.in_ok-is_added.field-0 seen c.in_ok-is_added.ensures.added c.if-not-branch.false in
    let front = sym (c.in_ok-reel.ensures.front H before.picks stands feeding) ∙ c.in_default-2.is in
    let pick = pick-none bench before d c.in-Some.slot slot front in
    refused-short d c.in-Some.slot _ _ _ _ slot new (sym (c.has_placed.ensures H stands) ∙ c.if-has_placed.false) pick
    ∙ ap (λ n. Some (ReelShort n)) (sym c.from-in_default-2.ensures)
