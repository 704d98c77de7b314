use Rattle.desk_types.proofs.Common.{◌≡◌, map, take}
use Rattle.serde_json.specs.{Data.string, View.view}
use Rattle.desk_answers.proofs.answer.strings.Given as goal

abbrev pub invariant-loop-name : goal.invariant-loop-name
invariant-loop-name l = map view l.values.items ≡ map string (take l.name-index l.names)
