use Rattle.desk_types.proofs.Common.{◌++◌, ◌∙◌, ap, List, Option, option_map, option_to_list, sym, ℕ}
use Rattle.line_book.specs.declared.cause.Cause.{Cause}
use Rattle.line_book.specs.declared.cause.Cause.TheVariants.{Held}
use Rattle.line_book.specs.declared.note.Stock.TheVariants.{Reel}
use Rattle.line_book.specs.Causes.{held_causes}
use Rattle.line_book.specs.Holds.{hold_on}
use Rattle.line_book.proofs.Setups.{two-appended}
use Rattle.line_book.proofs.setup.Setup.add_holds.Goals as goal

pub returns : goal.returns
returns g c = λ S B stands keeps.
    let reel = c.in-Some.reel in
    let put : Option ℕ → List Cause = λ o. option_to_list (option_map (Held c.args.slot.now reel) o) in
    two-appended _ _ _ (put c.on.result) (put c.lot_hold.result) c.in_ok-add_hold.ensures c.in_ok-add_hold-2.ensures
    ∙ ap (λ o. c.args.found.now.items ++ (put o ++ put c.lot_hold.result)) (c.on.ensures ∙ keeps.holds (Reel reel))
    ∙ ap (λ o. c.args.found.now.items ++ (put (hold_on B (Reel reel)) ++ put o)) (c.lot_hold.ensures S B stands keeps)
    ∙ ap (λ front. c.args.found.now.items ++ held_causes S.history B c.args.slot.now front) (sym c.in-Some.is)
