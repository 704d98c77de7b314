-- Worked cases: the texts of answers.
use Rattle.desk_types.proofs.Common.{[], ◌++◌, ◌∷◌, ◌≡◌, codes, None, refl, Some}
use Rattle.line_book.specs.declared.cause.Cause.TheVariants.{NoWork}
use Rattle.line_answers.specs.declared.kind.Kind.TheVariants.{Entry}
use Rattle.line_answers.specs.declared.state.Point.{Point}
use Rattle.line_answers.specs.Counts.{counts_text}
use Rattle.line_answers.specs.NotFound.{not_found_text}
use Rattle.line_answers.specs.State.{text_with}
use Rattle.std.specs.Fmt.{digits}
use Rattle.serde_json.proofs.OnLiterals.{serde_json_on_literals}

abbrev pub at_work : Point
at_work = record { number = 6; board = Some (codes "B1") }

abbrev pub idle : Point
idle = record { number = 5; board = None }

pub a_machine_may_work : text_with (codes "M1") at_work []
    ≡ codes "{\"Answer\":\"State\",\"Board\":\"B1\",\"Causes\":[],\"Machine\":\"M1\",\"Number\":6,\"State\":\"go\"}"
unfolding text_with serde_json_on_literals digits
a_machine_may_work = refl

pub a_machine_without_work_stops : text_with (codes "M1") idle (NoWork ∷ [])
    ≡ codes "{\"Answer\":\"State\",\"Board\":null,\"Causes\":[{\"Cause\":\"NoWork\"}],"
    ++ codes "\"Machine\":\"M1\",\"Number\":5,\"State\":\"stop\"}"
unfolding text_with serde_json_on_literals digits
a_machine_without_work_stops = refl

pub both_lists_are_counted : counts_text (record { commands = 6; entries = 3; open_entries = 1; undecided = 2 })
    ≡ codes "{\"Answer\":\"Counts\",\"Commands\":6,\"Entries\":3,\"Open\":1,\"Undecided\":2}"
unfolding counts_text serde_json_on_literals digits
both_lists_are_counted = refl

pub an_unknown_entry_is_told : not_found_text Entry ≡ codes "{\"Answer\":\"NotFound\",\"Kind\":\"Entry\"}"
unfolding not_found_text serde_json_on_literals
an_unknown_entry_is_told = refl
