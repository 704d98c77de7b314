use Rattle.desk_types.proofs.Common.{◌∙◌, ap, sym}
use Rattle.state_rows.{proofs.RowLists.pair-among, specs.Kept.tables_in}
use Rattle.state_rows.proofs.set.RowSet.alternate_set.Goals as goal

pub returns : goal.returns
returns c = λ p q. sym (pair-among c.self.inside.alternates p q) ∙ ap (λ kept. (tables_in kept).alternates p q) c.self.view_is
