use Rattle.desk_types.proofs.Common.{[], ◌∷◌, ◌≡◌, IfOk, subst, sym}
use Rattle.desk_types.specs.declared.edit.RowEdit.TheVariants.{PutReel}
use Rattle.state_rows.specs.EditsOf.{AreEditsOf}
use Rattle.state_rows.proofs.rows.edits_of.Goals as goal

pub returns-in-ReelReceived : goal.returns-in-ReelReceived
returns-in-ReelReceived g c = λ B stands.
    subst (λ command. IfOk c.one-in-ReelReceived.result (λ edits. AreEditsOf B.history c.args.number c.args.minute c.args.takes.now command edits.items)) (sym c.in-ReelReceived.is)
    (subst (λ row. IfOk c.one-in-ReelReceived.result (λ edits. edits.items ≡ PutReel row ∷ [])) (c.fresh.ensures c.args.minute) c.one-in-ReelReceived.ensures)
