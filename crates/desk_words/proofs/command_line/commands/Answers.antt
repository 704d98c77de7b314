use Rattle.desk_types.proofs.Common.{◌∙◌, ◌≡◌, ap₂, IfOk-weaker}
use Rattle.clap.specs.Simple.{app_of, with_subcommand}
use Rattle.desk_words.specs.CommandLine.{audit_shape, report_shape, with_answering}
use Rattle.desk_words.proofs.command_line.commands.Goals as goal

pub returns : goal.returns
returns c =
    let report = c.in_ok-report.ensures in
    let audit = c.in_ok-audit.ensures in
    let migrate = c.in_ok-migrate.ensures in
    let one : app_of c.in_ok-with_report.with_report ≡ with_subcommand with_answering report_shape = c.in_ok-with_report.ensures.shape report.local ∙ ap₂ with_subcommand c.in_ok-answering.ensures report.shape in
    let two : app_of c.in_ok-with_audit.with_audit ≡ with_subcommand (with_subcommand with_answering report_shape) audit_shape = c.in_ok-with_audit.ensures.shape audit.1 ∙ ap₂ with_subcommand one audit.0 in
    IfOk-weaker c.subcommand-3.result _ _ (λ command added. added.shape migrate.1 ∙ ap₂ with_subcommand two migrate.0) c.subcommand-3.ensures
