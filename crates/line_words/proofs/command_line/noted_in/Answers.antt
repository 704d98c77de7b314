use Rattle.desk_types.proofs.Common.{◌∙◌, ◌≡◌, codes, IfSome, List, None, Option, rules, Some, subst, ℕ}
use Rattle.clap.{proofs.WalkLemmas.first_value-rows, specs.Matches.first_value, specs.Matches.found_of}
use Rattle.line_words.specs.CommandLine.{ShowsNoted, ShowsNoNoted}
use Rattle.std.proofs.Common.{IsNone}
use Rattle.line_words.proofs.command_line.noted_in.Goals as goal

pub returns-in-Some-clause-some : goal.returns-in-Some-clause-some
returns-in-Some-clause-some c =
    let found = found_of c.args.found.now in
    let is : Some c.in-Some.text.now ≡ first_value found (codes "kind") = search rules in
    subst (λ (o : Option (List ℕ)). IfSome c.noted_of.result (ShowsNoted o))
    (is ∙ first_value-rows found (codes "kind")) c.noted_of.ensures.some

pub returns-in-Some-clause-none : goal.returns-in-Some-clause-none
returns-in-Some-clause-none c =
    let found = found_of c.args.found.now in
    let is : Some c.in-Some.text.now ≡ first_value found (codes "kind") = search rules in
    subst (λ (o : Option (List ℕ)). IsNone c.noted_of.result → ShowsNoNoted o)
    (is ∙ first_value-rows found (codes "kind")) c.noted_of.ensures.none

pub returns-in-None-clause-none : goal.returns-in-None-clause-none
returns-in-None-clause-none c = λ is.
    let found = found_of c.args.found.now in
    let none : None ≡ first_value found (codes "kind") = search rules in
    subst (λ (o : Option (List ℕ)). ShowsNoNoted o) (none ∙ first_value-rows found (codes "kind")) (search rules)
