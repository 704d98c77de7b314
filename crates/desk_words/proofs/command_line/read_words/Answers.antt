use Rattle.desk_types.proofs.Common.{[], ◌∙◌, ◌≡◌, ap, List, map, refl, rules, string_bytes, subst, true, ℕ}
use Rattle.clap.proofs.OnLiterals.{clap_on_literals}
use Rattle.clap.specs.{Faults.fault_of, Faults.is_simple_and_free, Kinds.HasKind, Simple.App, Simple.app_of}
use Rattle.clap.specs.{Simple.HasMatchesOf, Simple.is_simple, Simple.subcommand_of, Simple.subcommand_rows_of}
use Rattle.clap.specs.{declared.parser.matches.ArgMatches.ArgMatches}
use Rattle.desk_words.specs.CommandLine.{commands, named_by, told_of}
use Rattle.desk_words.proofs.command_line.read_words.Goals as goal

is_free : is_simple_and_free commands ≡ true
unfolding clap_on_literals
is_free = refl

is_plain : is_simple commands ≡ true
unfolding clap_on_literals
is_plain = refl

of_commands : (a : App) (words : List (List ℕ)) (m : ArgMatches) → a ≡ commands → (is_simple_and_free a ≡ true → fault_of a words ≡ [])
    → HasMatchesOf a words m → (told_of words ≡ []) × (subcommand_rows_of m ≡ named_by words)
unfolding told_of named_by
of_commands a words m is fails finds = (
  subst (λ (x : App). fault_of x words ≡ []) is (fails (ap is_simple_and_free is ∙ is_free)),
  (finds (ap is_simple is ∙ is_plain)).1 ∙ ap (λ (x : App). subcommand_of x words) is,
)

pub command_of-requires : goal.command_of-requires
command_of-requires c =
    let is : app_of c.in_ok-command.command ≡ commands = search rules in
    let words = map string_bytes c.args.words.now in
    let says = of_commands _ words c.in-Ok.matches is c.in-Ok.ensures.kinds c.in-Ok.ensures.matches in
    record { named = (words, says.0, says.1) }

pub returns-in-Ok-clause-asks : goal.returns-in-Ok-clause-asks
returns-in-Ok-clause-asks c =
    let is : app_of c.in_ok-command.command ≡ commands = search rules in
    let words = map string_bytes c.args.words.now in
    let says = of_commands _ words c.in-Ok.matches is c.in-Ok.ensures.kinds c.in-Ok.ensures.matches in
    c.command_of.ensures.asks words says.0 says.1

pub returns-in-Err-clause-asks : goal.returns-in-Err-clause-asks
unfolding told_of
returns-in-Err-clause-asks c =
    let is : app_of c.in_ok-command.command ≡ commands = search rules in
    let words = map string_bytes c.args.words.now in
    c.help_or_mistake.ensures.asks words (subst (λ (a : App). HasKind (fault_of a words) c.in-Err.error) is (c.in-Err.ensures.kinds (ap is_simple_and_free is ∙ is_free)))
