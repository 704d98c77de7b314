use Rattle.desk_types.proofs.Common.{◌∙◌, ◌≡◌, codes, IfSome, IsSomeAnd, List, None, Option, rules, Some}
use Rattle.desk_types.proofs.Common.{subst, ℕ}
use Rattle.clap.{proofs.WalkLemmas.first_value-rows, specs.Matches.first_value, specs.Matches.found_of}
use Rattle.desk_words.specs.CommandLine.{GoesUpTo, IsGreatest}
use Rattle.std.proofs.Common.{IsNone}
use Rattle.desk_words.proofs.command_line.greatest_in.Goals as goal

pub returns-in-Some-clause-some : goal.returns-in-Some-clause-some
returns-in-Some-clause-some c =
    let found = found_of c.args.found.now in
    let is : Some c.in-Some.text.now ≡ first_value found (codes "greatest") = search rules in
    subst (λ (o : Option (List ℕ)). IfSome c.numeral.result (GoesUpTo o)) (is ∙ first_value-rows found (codes "greatest")) c.numeral.ensures.some

pub returns-in-Some-clause-none : goal.returns-in-Some-clause-none
returns-in-Some-clause-none c =
    let found = found_of c.args.found.now in
    let is : Some c.in-Some.text.now ≡ first_value found (codes "greatest") = search rules in
    subst (λ (o : Option (List ℕ)). IsNone c.numeral.result → IsSomeAnd o (λ text. IsGreatest text → ⊥)) (is ∙ first_value-rows found (codes "greatest")) c.numeral.ensures.none

pub returns-in-None-clause-some : goal.returns-in-None-clause-some
returns-in-None-clause-some c =
    let found = found_of c.args.found.now in
    let none : None ≡ first_value found (codes "greatest") = search rules in
    subst (λ (o : Option (List ℕ)). GoesUpTo o 1000000000) (none ∙ first_value-rows found (codes "greatest")) (search rules)
