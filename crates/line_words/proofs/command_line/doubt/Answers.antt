use Rattle.desk_types.proofs.Common.{◌∙◌, ◌≡◌, ap, codes, IfOk-weaker, rules}
use Rattle.clap.specs.{Simple.App, Simple.app_of, Simple.new_app, Simple.with_rule, Walk.rule_of}
use Rattle.desk_words.specs.CommandLine.{required_option}
use Rattle.line_words.specs.CommandLine.{within_rule}
use Rattle.line_words.proofs.command_line.doubt.Goals as goal

pub returns-clause-shape : goal.returns-clause-shape
returns-clause-shape c =
    let start_is : app_of c.after_help-start.result ≡ new_app (codes "doubt") = search rules in
    let kept = c.in_ok-kept.ensures.shape
    ∙ ap (λ (a : App). with_rule a (required_option (codes "db"))) start_is in
    let option_is : rule_of c.help-option.result ≡ within_rule = search rules in
    IfOk-weaker c.arg.result _ _
    (λ command added. ap (λ (a : App). a.top) (added.shape (search rules)
    ∙ ap (with_rule (app_of c.in_ok-kept.kept)) option_is ∙ ap (λ (a : App). with_rule a within_rule) kept))
    c.arg.ensures

pub returns-clause-local : goal.returns-clause-local
returns-clause-local c = IfOk-weaker c.arg.result _ _ (λ command added. search rules) c.arg.ensures
