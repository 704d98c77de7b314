use Rattle.desk_types.proofs.Common.{◌∙◌, ◌≡◌, ◌⊎◌, codes, inl, inr, None, Ok, Result, rules, Some}
use Rattle.desk_types.proofs.Common.{string_bytes, subst, sym}
use Rattle.clap.proofs.WalkLemmas.{first_value-rows}
use Rattle.clap.specs.{Matches.first_value, Matches.found_of, Walk.first_of, Walk.rows_of}
use Rattle.desk_feed.specs.declared.options.BadOption.{BadOption}
use Rattle.desk_words.proofs.command_line.import_of.Goals.{in_default-via-in-Some+in_default}
use Rattle.desk_words.proofs.command_line.import_of.Goals.{in_default-via-in_default}
use Rattle.desk_words.specs.CommandLine.{NamesImport}
use Rattle.imports.specs.declared.import.Import.{Import}
use Rattle.desk_words.proofs.command_line.import_of.Goals as goal

pub returns-in_ok-from_str-in-Some-Some-2-clause-asks : goal.returns-in_ok-from_str-in-Some-Some-2-clause-asks
returns-in_ok-from_str-in-Some-Some-2-clause-asks c = λ words names.
    let found = found_of c.args.found.now in
    let file : first_value found (codes "db") ≡ Some (string_bytes c.in_ok-from_str-in-Some-Some.field-0) = search rules in
    let from : first_value found (codes "file") ≡ Some (string_bytes c.in_ok-from_str-in-Some-Some-2.field-0) = search rules in (
      rows_of found,
      subst (λ (said : Result Import BadOption). NamesImport words (rows_of found) said) c.in-Ok.is names,
      sym (first_value-rows found (codes "db")) ∙ file,
      sym (first_value-rows found (codes "file")) ∙ from,
    )

pub returns-in_ok-no_file-in_default-clause-asks : goal.returns-in_ok-no_file-in_default-clause-asks
returns-in_ok-no_file-in_default-clause-asks c = λ words names.
    let found = found_of c.args.found.now in
    let named : NamesImport words (rows_of found) (Ok c.in-Ok.import) = subst (λ (said : Result Import BadOption). NamesImport words (rows_of found) said) c.in-Ok.is names in
    let missing : (first_of (codes "db") (rows_of found) ≡ None) ⊎ (first_of (codes "file") (rows_of found) ≡ None) = elim c.in_default.branch [
      | in_default-via-in-Some+in_default w ↦
          let none : first_value found (codes "file") ≡ None = search rules in
          inr (sym (first_value-rows found (codes "file")) ∙ none)
      | in_default-via-in_default w ↦
          let none : first_value found (codes "db") ≡ None = search rules in
          inl (sym (first_value-rows found (codes "db")) ∙ none)
    ] in
    inr (rows_of found, inr (inr (inr (inr (inr (c.in-Ok.import, named, missing))))))
