use Rattle.desk_types.proofs.Common.{◌∙◌, ap, take}
use Rattle.line_answers.proofs.CauseValues.{causes_whole}
use Rattle.serde_json.proofs.Views.{view-Array}
use Rattle.serde_json.specs.{View.items_of, Written.has_float, Written.items_have_float}
use Rattle.line_answers.proofs.state.cause_values.Goals as goal

pub returns-clause-whole : goal.returns-clause-whole
returns-clause-whole c =
    ap has_float (view-Array c.loop-cause.values) ∙ ap (λ ds. items_have_float (items_of ds)) c.loop-cause.invariant
    ∙ causes_whole (take c.loop-cause.cause-index c.args.found.now)
