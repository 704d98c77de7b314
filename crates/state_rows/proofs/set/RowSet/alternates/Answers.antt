use Rattle.desk_types.proofs.Common.{◌∙◌, ap, by_pair, refl}
use Rattle.state_rows.{proofs.RowLists.lists-keys, specs.Kept.has_key, specs.Kept.tables_in}
use Rattle.state_rows.proofs.set.RowSet.alternates.Goals as goal

pub returns : goal.returns
returns c = lists-keys by_pair _ _ _ refl c.iter.ensures.ordered (λ k. ap (λ ks. has_key by_pair ks k) c.iter.ensures.all ∙ ap (λ kept. (tables_in kept).alternates k.0 k.1) c.self.view_is)
