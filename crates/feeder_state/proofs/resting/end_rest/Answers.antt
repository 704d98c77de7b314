use Rattle.desk_types.proofs.Common.{◌∙◌, sym}
use Rattle.feeder_state.{proofs.AtRest.left-there, proofs.AtRest.others-rest, specs.Rows.left_at}
use Rattle.feeder_state.proofs.resting.end_rest.Goals as goal

pub returns-then-is_spent : goal.returns-then-is_spent
returns-then-is_spent c = λ r some.
    let rows = c.args.rows.now in
    others-rest (left_at rows) c.args.reel.now r _ _ (sym c.is_spent.ensures ∙ c.if-is_spent.true) some (c.take_reel.ensures r (left-there rows r some))
