use Rattle.desk_types.proofs.Common.{◌∙◌, ◌≡◌, ap, codes, IfOk-weaker, rules}
use Rattle.clap.specs.Simple.{App, app_of, new_app, with_rule}
use Rattle.desk_words.specs.CommandLine.{required_option, with_stamp}
use Rattle.desk_words.proofs.command_line.import_setup.Goals as goal

pub returns-clause-shape : goal.returns-clause-shape
returns-clause-shape c =
    let start_is : app_of c.after_help-start.result ≡ new_app (codes "import-setup") = search rules in
    let stamped = c.in_ok-stamped.ensures.shape ∙ ap with_stamp start_is in
    let made = c.in_ok-made.ensures.shape ∙ ap (λ (a : App). with_rule a (required_option (codes "product"))) stamped in
    let placed = c.in_ok-placed.ensures.shape ∙ ap (λ (a : App). with_rule a (required_option (codes "machine"))) made in
    IfOk-weaker c.with_wanted-3.result _ _ (λ command is. ap (λ (a : App). a.top) (is ∙ ap (λ (a : App). with_rule a (required_option (codes "file"))) placed)) c.with_wanted-3.ensures.shape
