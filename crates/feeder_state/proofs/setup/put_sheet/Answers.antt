use Rattle.desk_types.proofs.Common.{pair-written}
use Rattle.feeder_state.proofs.setup.put_sheet.Goals as goal

pub returns : goal.returns
returns c = λ p m. pair-written _ _ (c.args.product, c.args.machine) _ (λ o. o) c.in_ok-insert.ensures.updates.0 p m
