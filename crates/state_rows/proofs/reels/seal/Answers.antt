use Rattle.desk_types.proofs.Common.{[], ◌++◌, ◌∙◌, ◌∷◌, ◌≡◌, ap, arith, reel_row, sealed_row, Some, sym}
use Rattle.desk_types.specs.declared.edit.RowEdit.TheVariants.{PutReel}
use Rattle.state_rows.{proofs.SumsInRange.kept-fits, specs.EditsOf.reel_edit}
use Rattle.state_rows.proofs.reels.seal.Goals as goal

pub returns-in_ok-push-in-Some : goal.returns-in_ok-push-in-Some
returns-in_ok-push-in-Some g c = λ B judged stands le.
    let is : reel_row B.history c.args.reel.now ≡ Some c.in-Some.row = sym (c.reel_row.ensures B stands) ∙ c.in-Some.is in
    let fits = kept-fits B.history c.args.reel.now c.args.minute c.in-Some.row judged le is in
    c.in_ok-push-in-Some.ensures.items
    ∙ ap (λ l. l ++ PutReel c.sealed.result ∷ []) c.new-edits.ensures.items
    ∙ ap (λ r. PutReel r ∷ []) (c.sealed.ensures (omega (arith, fits, c.get.ensures.range)))
    ∙ sym (ap (reel_edit (sealed_row c.args.minute)) is)
