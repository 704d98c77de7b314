use Rattle.desk_types.proofs.Common.{◌∙◌, ap, sym}
use Rattle.state_rows.{proofs.RowLists.key-among, specs.Kept.tables_in}
use Rattle.state_rows.proofs.set.RowSet.part_set.Goals as goal

pub returns : goal.returns
returns c = λ p. sym (key-among c.self.inside.parts p) ∙ ap (λ kept. (tables_in kept).parts p) c.self.view_is
