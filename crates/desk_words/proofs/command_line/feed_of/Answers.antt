use Rattle.desk_types.proofs.Common.{◌∙◌, ◌≡◌, codes, inl, inr, rules, string_bytes, sym}
use Rattle.clap.proofs.WalkLemmas.{first_value-rows}
use Rattle.clap.specs.{Matches.first_value, Matches.found_of, Walk.first_of, Walk.rows_of}
use Rattle.desk_words.proofs.command_line.feed_of.Goals.{in-None}
use Rattle.desk_words.proofs.command_line.feed_of.Goals.{in-Some-get_str+in_ok-from_str-in-Some-get_str}
use Rattle.desk_words.specs.CommandLine.{GoesUpTo, HasNoGreatest}
use Rattle.std.proofs.Common.{option_map}
use Rattle.desk_words.proofs.command_line.feed_of.Goals as goal

pub returns-in_default-clause-asks : goal.returns-in_default-clause-asks
returns-in_default-clause-asks c = λ words names.
    let found = found_of c.args.found.now in
    let none : HasNoGreatest (rows_of found) = search rules in
    inr (rows_of found, inl (names, none))

pub returns-clause-asks : goal.returns-clause-asks
returns-clause-asks c = λ words names.
    let found = found_of c.args.found.now in
    let up : GoesUpTo (first_of (codes "greatest") (rows_of found)) c.in-Some.greatest = search rules in
    let file : first_value found (codes "db") ≡ option_map string_bytes c.match-get_str.file = elim c.match-get_str.branch [
      | in-None w ↦ search rules
      | in-Some-get_str+in_ok-from_str-in-Some-get_str w ↦ search rules
    ] in
    (rows_of found, names, sym (first_value-rows found (codes "db")) ∙ file, up)
