use Rattle.desk_types.proofs.Common.{◌∙◌, ◌≡◌, ap, codes, IfOk-weaker, rules}
use Rattle.clap.specs.Simple.{App, app_of, new_app, with_rule}
use Rattle.desk_words.specs.CommandLine.{greatest_rule, required_option}
use Rattle.desk_words.proofs.command_line.serve.Goals as goal

pub returns-clause-shape : goal.returns-clause-shape
returns-clause-shape c =
    let start_is : app_of c.after_help-start.result ≡ new_app (codes "serve") = search rules in
    let kept = c.in_ok-kept.ensures.shape ∙ ap (λ (a : App). with_rule a (required_option (codes "db"))) start_is in
    let bound = c.in_ok-bound.ensures.shape ∙ ap (λ (a : App). with_rule a (required_option (codes "port"))) kept in
    let ending = c.in_ok-ending.ensures.shape ∙ ap (λ (a : App). with_rule a (required_option (codes "connections"))) bound in
    IfOk-weaker c.with_greatest.result _ _ (λ command is. ap (λ (a : App). a.top) (is ∙ ap (λ (a : App). with_rule a greatest_rule) ending)) c.with_greatest.ensures.shape
