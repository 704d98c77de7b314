use Rattle.desk_types.proofs.Common.{[], ◌∙◌, ◌≡◌, ap, List, map, refl, rules, string_bytes, subst, true, ℕ}
use Rattle.clap.proofs.OnLiterals.{clap_on_literals}
use Rattle.clap.specs.{Faults.fault_of, Faults.is_simple_and_free, Kinds.HasKind, Simple.App, Simple.app_of}
use Rattle.clap.specs.{Simple.HasMatchesOf, Simple.is_simple, Simple.subcommand_of, Simple.subcommand_rows_of}
use Rattle.clap.specs.{declared.parser.matches.ArgMatches.ArgMatches}
use Rattle.line_words.specs.CommandLine.{commands, named_by, told_of}
use Rattle.line_words.proofs.command_line.read_words.Goals as goal

-- The grammar is one whose reading is known.
is_known : (is_simple_and_free commands ≡ true) × (is_simple commands ≡ true)
unfolding clap_on_literals
is_known = (refl, refl)

reads : (app : App) (words : List (List ℕ)) (found : ArgMatches) → app ≡ commands
    → (is_simple_and_free app ≡ true → fault_of app words ≡ []) → HasMatchesOf app words found
    → (told_of words ≡ []) × (subcommand_rows_of found ≡ named_by words)
unfolding told_of named_by
reads app words found is fails finds = (
  subst (λ (a : App). fault_of a words ≡ []) is (fails (ap is_simple_and_free is ∙ is_known.0)),
  (finds (ap is_simple is ∙ is_known.1)).1 ∙ ap (λ (a : App). subcommand_of a words) is,
)

pub returns-in-Ok-clause-asks : goal.returns-in-Ok-clause-asks
returns-in-Ok-clause-asks c =
    let is : app_of c.in_ok-command.command ≡ commands = search rules in
    let words = map string_bytes c.args.words.now in
    let says = reads _ words c.in-Ok.matches is c.in-Ok.ensures.kinds c.in-Ok.ensures.matches in
    c.command_of.ensures.asks words says.0 says.1

pub returns-in-Err-clause-asks : goal.returns-in-Err-clause-asks
unfolding told_of
returns-in-Err-clause-asks c =
    let is : app_of c.in_ok-command.command ≡ commands = search rules in
    let words = map string_bytes c.args.words.now in
    c.help_or_mistake.ensures.asks words
    (subst (λ (a : App). HasKind (fault_of a words) c.in-Err.error) is
    (c.in-Err.ensures.kinds (ap is_simple_and_free is ∙ is_known.0)))
