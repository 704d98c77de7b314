use Rattle.desk_types.proofs.Common.{◌≡◌, map, take}
use Rattle.line_answers.specs.State.{cause_object}
use Rattle.serde_json.specs.{View.view}
use Rattle.line_answers.proofs.state.cause_values.Given as goal

abbrev pub invariant-loop-cause : goal.invariant-loop-cause
invariant-loop-cause l = map view l.values.items ≡ map cause_object (take l.cause-index l.found)
