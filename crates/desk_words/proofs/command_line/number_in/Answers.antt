use Rattle.desk_types.proofs.Common.{◌∙◌, ◌≡◌, IfSome, List, None, Option, rules, Some, subst, ℕ}
use Rattle.clap.{proofs.WalkLemmas.first_value-rows, specs.Matches.first_value, specs.Matches.found_of}
use Rattle.desk_words.specs.CommandLine.{Shows, ShowsNone}
use Rattle.std.proofs.Common.{IsNone}
use Rattle.desk_words.proofs.command_line.number_in.Goals as goal

pub returns-in-Some-clause-some : goal.returns-in-Some-clause-some
returns-in-Some-clause-some c =
    let found = found_of c.args.found.now in
    let is : Some c.in-Some.text.now ≡ first_value found c.args.name.now = search rules in
    subst (λ (o : Option (List ℕ)). IfSome c.numeral.result (Shows c.args.most o)) (is ∙ first_value-rows found c.args.name.now) c.numeral.ensures.some

pub returns-in-Some-clause-none : goal.returns-in-Some-clause-none
returns-in-Some-clause-none c =
    let found = found_of c.args.found.now in
    let is : Some c.in-Some.text.now ≡ first_value found c.args.name.now = search rules in
    subst (λ (o : Option (List ℕ)). IsNone c.numeral.result → ShowsNone c.args.most o) (is ∙ first_value-rows found c.args.name.now) c.numeral.ensures.none

pub returns-in-None-clause-none : goal.returns-in-None-clause-none
returns-in-None-clause-none c = λ is.
    let found = found_of c.args.found.now in
    let none : None ≡ first_value found c.args.name.now = search rules in
    subst (λ (o : Option (List ℕ)). ShowsNone c.args.most o) (none ∙ first_value-rows found c.args.name.now) (search rules)
