use Rattle.desk_types.proofs.Common.{◌∙◌, ◌≡◌, ap, ap₂, codes, IfOk-weaker, rules}
use Rattle.clap.specs.{Simple.App, Simple.app_of, Simple.new_app, Simple.with_rule, Walk.rule_of}
use Rattle.desk_words.specs.CommandLine.{file_rule, greatest_rule}
use Rattle.desk_words.proofs.command_line.feed.Goals as goal

pub returns-clause-shape : goal.returns-clause-shape
returns-clause-shape c =
    let file_is : rule_of c.help-file.result ≡ file_rule = search rules in
    let start_is : app_of c.after_help.result ≡ new_app (codes "feed") = search rules in
    let one_is : app_of c.in_ok-kept.kept ≡ with_rule (new_app (codes "feed")) file_rule = c.in_ok-kept.ensures.shape (search rules) ∙ ap₂ with_rule start_is file_is in
    IfOk-weaker c.with_greatest.result _ _ (λ command is. ap (λ (a : App). a.top) (is ∙ ap (λ (a : App). with_rule a greatest_rule) one_is)) c.with_greatest.ensures.shape
