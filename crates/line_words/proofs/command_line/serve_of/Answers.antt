use Rattle.desk_types.proofs.Common.{◌∙◌, ◌≡◌, codes, inl, inr, None, rules, Some, string_bytes, sym}
use Rattle.clap.proofs.WalkLemmas.{first_value-rows}
use Rattle.clap.specs.{Matches.first_value, Matches.found_of, Walk.first_of, Walk.rows_of}
use Rattle.desk_types.specs.declared.limits.TheConstants.{MOST_PORT}
use Rattle.desk_words.specs.CommandLine.{Shows}
use Rattle.line_words.specs.CommandLine.{Serves}
use Rattle.line_words.proofs.command_line.serve_of.Goals as goal

pub returns-in_ok-from_str-in-Some-get_str-clause-asks : goal.returns-in_ok-from_str-in-Some-get_str-clause-asks
returns-in_ok-from_str-in-Some-get_str-clause-asks c = λ words names.
    let found = found_of c.args.found.now in
    let file : first_value found (codes "db") ≡ Some (string_bytes c.in_ok-from_str-in-Some-get_str.field-0) =
    search rules in
    let port : Shows MOST_PORT (first_of (codes "port") (rows_of found)) c.in-Some.port = search rules in
    let connections : Serves (first_of (codes "connections") (rows_of found)) c.in-Some-connections_in.connections =
    search rules in
    (rows_of found, names, sym (first_value-rows found (codes "db")) ∙ file, port, connections)

pub returns-in_ok-no_value-in-None-clause-asks : goal.returns-in_ok-no_value-in-None-clause-asks
returns-in_ok-no_value-in-None-clause-asks c = λ words names.
    let found = found_of c.args.found.now in
    let none : first_value found (codes "db") ≡ None = search rules in
    inr (inr (
      rows_of found,
      inl (names, inr (inr (sym (first_value-rows found (codes "db")) ∙ none))),
    ))
