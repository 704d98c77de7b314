use Rattle.desk_types.proofs.Common.{◌∙◌, ap, take}
use Rattle.desk_answers.proofs.Strings.{strings_have_none}
use Rattle.serde_json.proofs.Views.{view-Array}
use Rattle.serde_json.specs.{View.items_of, Written.has_float, Written.items_have_float}
use Rattle.desk_answers.proofs.answer.strings.Goals as goal

pub returns-clause-whole : goal.returns-clause-whole
returns-clause-whole c =
    ap has_float (view-Array c.loop-name.values) ∙ ap (λ ds. items_have_float (items_of ds)) c.loop-name.invariant
    ∙ strings_have_none (take c.loop-name.name-index c.args.names.now)
