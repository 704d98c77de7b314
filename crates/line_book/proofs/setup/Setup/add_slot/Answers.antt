use Rattle.desk_types.proofs.Common.{◌++◌, ◌∙◌, ap, refl}
use Rattle.desk_laws.proofs.Common.{judged-by-two}
use Rattle.setup_sheets.specs.Verification.{front_fault}
use Rattle.line_book.specs.Causes.{held_causes}
use Rattle.line_book.specs.Setup.{reel_in}
use Rattle.line_book.proofs.Setups.{slot-told, two-appended}
use Rattle.line_book.proofs.setup.Setup.add_slot.Goals as goal

pub returns : goal.returns
returns g c = λ S B machine stands keeps at is.
    let row = c.args.row.now in
    let front = c.args.front.now in
    let alternates = c.args.self.now.alternates in
    let held = c.in_ok-add_holds.ensures S B stands keeps
    ∙ ap (λ o. c.add_refusal.new.found.items ++ held_causes S.history B row.slot o) c.reel_of.ensures in
    two-appended _ _ _ _ _ c.in_ok-add_refusal.ensures held
    ∙ ap (λ l. c.args.found.now.items ++ l)
    (slot-told S.history B machine row front alternates c.args.minute
    (judged-by-two S.rules S.history (g.met.D.Desk.is_judged c.args.desk.now S stands)) keeps.alternates at is
    (reel_in front.reel) refl (front_fault alternates c.args.minute row front.reel) refl)
