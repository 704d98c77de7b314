use Rattle.desk_types.proofs.Common.{◌∙◌, ◌≡◌, ◌⊎◌, codes, inl, inr, None, rules, Some, string_bytes, sym}
use Rattle.clap.proofs.WalkLemmas.{first_value-rows}
use Rattle.clap.specs.{Matches.first_value, Matches.found_of, Walk.first_of, Walk.rows_of}
use Rattle.line_words.proofs.command_line.state_of.Goals.{in_default-via-in-Some+in_default}
use Rattle.line_words.proofs.command_line.state_of.Goals.{in_default-via-in_default}
use Rattle.line_words.specs.CommandLine.{ShowsName, ShowsNoName}
use Rattle.line_words.proofs.command_line.state_of.Goals as goal

pub returns-in_ok-from_str-in-Some-Some-clause-asks : goal.returns-in_ok-from_str-in-Some-Some-clause-asks
returns-in_ok-from_str-in-Some-Some-clause-asks c = λ words names.
    let found = found_of c.args.found.now in
    let file : first_value found (codes "db") ≡ Some (string_bytes c.in_ok-from_str-in-Some-Some.field-0) =
    search rules in
    let machine : ShowsName (first_of (codes "machine") (rows_of found)) c.in-Some-Some.machine = search rules in
    (rows_of found, names, sym (first_value-rows found (codes "db")) ∙ file, machine)

pub returns-in_ok-no_machine-in_default-clause-asks : goal.returns-in_ok-no_machine-in_default-clause-asks
returns-in_ok-no_machine-in_default-clause-asks c = λ words names.
    let found = found_of c.args.found.now in
    let rows = rows_of found in
    let bad : (first_of (codes "db") rows ≡ None) ⊎ ShowsNoName (first_of (codes "machine") rows) =
    elim c.in_default.branch [
      | in_default-via-in-Some+in_default w ↦
          let none : ShowsNoName (first_of (codes "machine") rows) = search rules in
          inr none
      | in_default-via-in_default w ↦
          let none : first_value found (codes "db") ≡ None = search rules in
          inl (sym (first_value-rows found (codes "db")) ∙ none)
    ] in
    inr (inr (rows, inr (inl (names, bad))))
