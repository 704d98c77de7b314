use Rattle.desk_types.proofs.Common.{◌∙◌, ◌≡◌, codes, IfSome, List, None, Option, rules, Some, subst, ℕ}
use Rattle.clap.{proofs.WalkLemmas.first_value-rows, specs.Matches.first_value, specs.Matches.found_of}
use Rattle.line_words.specs.CommandLine.{IsWithin, IsWithinNone}
use Rattle.std.proofs.Common.{IsNone}
use Rattle.line_words.proofs.command_line.within_in.Goals as goal

pub returns-in-Some-clause-some : goal.returns-in-Some-clause-some
returns-in-Some-clause-some c =
    let found = found_of c.args.found.now in
    let is : Some c.in-Some.text.now ≡ first_value found (codes "within") = search rules in
    subst (λ (o : Option (List ℕ)). IfSome c.numeral.result (IsWithin o))
    (is ∙ first_value-rows found (codes "within")) c.numeral.ensures.some

pub returns-in-Some-clause-none : goal.returns-in-Some-clause-none
returns-in-Some-clause-none c =
    let found = found_of c.args.found.now in
    let is : Some c.in-Some.text.now ≡ first_value found (codes "within") = search rules in
    subst (λ (o : Option (List ℕ)). IsNone c.numeral.result → IsWithinNone o)
    (is ∙ first_value-rows found (codes "within")) c.numeral.ensures.none

pub returns-in-None-clause-some : goal.returns-in-None-clause-some
returns-in-None-clause-some c =
    let found = found_of c.args.found.now in
    let none : None ≡ first_value found (codes "within") = search rules in
    subst (λ (o : Option (List ℕ)). IsWithin o 0) (none ∙ first_value-rows found (codes "within"))
    (search rules)
