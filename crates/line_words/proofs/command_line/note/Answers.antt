use Rattle.desk_types.proofs.Common.{◌∙◌, ◌≡◌, ap, codes, IfOk-weaker, rules}
use Rattle.clap.specs.Simple.{App, app_of, new_app, with_rule}
use Rattle.desk_words.specs.CommandLine.{required_option}
use Rattle.line_words.proofs.command_line.note.Goals as goal

pub returns-clause-shape : goal.returns-clause-shape
returns-clause-shape c =
    let start_is : app_of c.after_help-start.result ≡ new_app (codes "note") = search rules in
    let kept = c.in_ok-kept.ensures.shape
    ∙ ap (λ (a : App). with_rule a (required_option (codes "db"))) start_is in
    let named = c.in_ok-named.ensures.shape
    ∙ ap (λ (a : App). with_rule a (required_option (codes "kind"))) kept in
    let rule = required_option (codes "told") in
    IfOk-weaker c.with_wanted-3.result _ _
    (λ command is. ap (λ (a : App). a.top) (is ∙ ap (λ (a : App). with_rule a rule) named))
    c.with_wanted-3.ensures.shape
