use Rattle.desk_types.proofs.Common.{◌∙◌, ◌≡◌, codes, IfSome, List, None, Option, rules, Some, subst, ℕ}
use Rattle.clap.{proofs.WalkLemmas.first_value-rows, specs.Matches.first_value, specs.Matches.found_of}
use Rattle.line_words.specs.CommandLine.{most_connections, Serves, ServesNone}
use Rattle.std.proofs.Common.{IsNone}
use Rattle.line_words.proofs.command_line.connections_in.Goals as goal

pub returns-in-Some-clause-some : goal.returns-in-Some-clause-some
returns-in-Some-clause-some c =
    let found = found_of c.args.found.now in
    let is : Some c.in-Some.text.now ≡ first_value found (codes "connections") = search rules in
    subst (λ (o : Option (List ℕ)). IfSome c.numeral.result (Serves o))
    (is ∙ first_value-rows found (codes "connections")) c.numeral.ensures.some

pub returns-in-Some-clause-none : goal.returns-in-Some-clause-none
returns-in-Some-clause-none c =
    let found = found_of c.args.found.now in
    let is : Some c.in-Some.text.now ≡ first_value found (codes "connections") = search rules in
    subst (λ (o : Option (List ℕ)). IsNone c.numeral.result → ServesNone o)
    (is ∙ first_value-rows found (codes "connections")) c.numeral.ensures.none

pub returns-in-None-clause-some : goal.returns-in-None-clause-some
returns-in-None-clause-some c =
    let found = found_of c.args.found.now in
    let none : None ≡ first_value found (codes "connections") = search rules in
    subst (λ (o : Option (List ℕ)). Serves o most_connections) (none ∙ first_value-rows found (codes "connections"))
    (search rules)
