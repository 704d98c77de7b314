use Rattle.desk_types.proofs.Common.{◌∙◌, ap, codes, IfOk-weaker}
use Rattle.clap.specs.Simple.{App, with_rule}
use Rattle.desk_words.specs.CommandLine.{required_option}
use Rattle.desk_words.proofs.command_line.with_stamp.Goals as goal

pub returns-clause-shape : goal.returns-clause-shape
returns-clause-shape c =
    let kept = c.in_ok-kept.ensures.shape in
    let named = c.in_ok-named.ensures.shape ∙ ap (λ (a : App). with_rule a (required_option (codes "id"))) kept in
    let said = c.in_ok-said.ensures.shape ∙ ap (λ (a : App). with_rule a (required_option (codes "source"))) named in
    IfOk-weaker c.with_wanted-4.result _ _ (λ command is. is ∙ ap (λ (a : App). with_rule a (required_option (codes "time"))) said) c.with_wanted-4.ensures.shape
