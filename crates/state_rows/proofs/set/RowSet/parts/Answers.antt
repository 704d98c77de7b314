use Rattle.desk_types.proofs.Common.{◌∙◌, ap, by_name, refl}
use Rattle.state_rows.{proofs.RowLists.lists-keys, specs.Kept.has_key, specs.Kept.tables_in}
use Rattle.state_rows.proofs.set.RowSet.parts.Goals as goal

pub returns : goal.returns
returns c = lists-keys by_name _ _ _ refl c.iter.ensures.ordered (λ p. ap (λ ks. has_key by_name ks p) c.iter.ensures.all ∙ ap (λ kept. (tables_in kept).parts p) c.self.view_is)
