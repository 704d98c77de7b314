use Rattle.desk_types.proofs.Common.{◌++◌, ◌∙◌, ap, flat_map, map, values}
use Rattle.desk_types.specs.declared.edit.RowEdit.TheVariants.{PutReel}
use Rattle.state_rows.{proofs.RowsLess.taken-all, specs.EditsOf.place_rows, specs.EditsOf.take_spent}
use Rattle.state_rows.proofs.takes.take.Goals as goal

pub returns : goal.returns
returns g c = λ B stands.
    taken-all B.history c.args.number c.args.takes.now c.in_ok-rows.rows.entries c.place_all.new.edits.items c.in_ok-put_all.ensures.ordered (c.in_ok-rows.ensures B stands)
    (c.in_ok-place_all.ensures
    ∙ ap (λ l. l ++ place_rows c.args.number 1 c.args.takes.now)
    (c.in_ok-put_all.ensures.put
    ∙ ap (λ l. l ++ map (λ row. PutReel row) (values c.in_ok-rows.rows))
    (c.in_ok-take_off.ensures ∙ ap (λ l. l ++ flat_map take_spent (values c.in_ok-rows.rows)) c.in_ok-edits.ensures.items)))
