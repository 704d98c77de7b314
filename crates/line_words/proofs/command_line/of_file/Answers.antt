use Rattle.desk_types.proofs.Common.{◌∙◌, ◌≡◌, ap, codes, IfOk-weaker, rules}
use Rattle.clap.specs.Simple.{App, app_of, new_app, with_rule}
use Rattle.desk_words.specs.CommandLine.{required_option}
use Rattle.line_words.proofs.command_line.of_file.Goals as goal

pub returns-clause-shape : goal.returns-clause-shape
returns-clause-shape c =
    let start_is : app_of c.after_help-start.result ≡ new_app c.args.name.now = search rules in
    let rule = required_option (codes "db") in
    IfOk-weaker c.with_wanted.result _ _
    (λ command is. ap (λ (a : App). a.top) (is ∙ ap (λ (a : App). with_rule a rule) start_is))
    c.with_wanted.ensures.shape
