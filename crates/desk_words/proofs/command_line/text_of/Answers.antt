use Rattle.desk_types.proofs.Common.{[], ◌∙◌, ◌≡◌, ap, List, None, Option, rules, Some, unwrap_or, ℕ}
use Rattle.clap.{proofs.WalkLemmas.first_value-rows, specs.Matches.first_value, specs.Matches.found_of}
use Rattle.desk_words.proofs.command_line.text_of.Goals as goal

pub returns-in-Some : goal.returns-in-Some
returns-in-Some c =
    let found = found_of c.args.found.now in
    let is : Some c.in-Some.text.now ≡ first_value found c.args.name.now = search rules in
    ap (λ (o : Option (List ℕ)). unwrap_or o []) (is ∙ first_value-rows found c.args.name.now)

pub returns-in-None : goal.returns-in-None
returns-in-None c =
    let found = found_of c.args.found.now in
    let none : None ≡ first_value found c.args.name.now = search rules in
    ap (λ (o : Option (List ℕ)). unwrap_or o []) (none ∙ first_value-rows found c.args.name.now)
