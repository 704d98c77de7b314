use Rattle.desk_types.proofs.Common.{[], pair-written, unwrap_or}
use Rattle.line_book.proofs.tapes.unload.Goals as goal

pub returns : goal.returns
returns c = λ m s. pair-written _ _ (c.args.machine, c.args.slot) _ (λ o. unwrap_or o []) c.remove.ensures.updates.0 m s
