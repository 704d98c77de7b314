use Rattle.desk_types.proofs.Common.{◌∙◌, ◌≡◌, codes, inr, None, rules, Some, string_bytes, sym}
use Rattle.clap.proofs.WalkLemmas.{first_value-rows}
use Rattle.clap.specs.{Matches.first_value, Matches.found_of, Walk.rows_of}
use Rattle.line_words.proofs.command_line.task_of.Goals as goal

pub returns-in_ok-from_str-in-Some-clause-asks : goal.returns-in_ok-from_str-in-Some-clause-asks
returns-in_ok-from_str-in-Some-clause-asks c = λ words names.
    let found = found_of c.args.found.now in
    let is : first_value found (codes "db") ≡ Some (string_bytes c.in_ok-from_str-in-Some.field-0) =
    search rules in
    (rows_of found, names, sym (first_value-rows found (codes "db")) ∙ is)

pub returns-in_ok-no_value-in-None-clause-asks : goal.returns-in_ok-no_value-in-None-clause-asks
returns-in_ok-no_value-in-None-clause-asks c = λ words names.
    let found = found_of c.args.found.now in
    let none : first_value found (codes "db") ≡ None = search rules in
    inr (inr (
      rows_of found,
      inr (inr (inr (inr (c.args.task, names, sym (first_value-rows found (codes "db")) ∙ none)))),
    ))
