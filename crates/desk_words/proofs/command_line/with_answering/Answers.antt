use Rattle.desk_types.proofs.Common.{◌∙◌, ◌≡◌, ap₂, IfOk-weaker}
use Rattle.clap.specs.Simple.{app_of, with_subcommand}
use Rattle.desk_words.specs.CommandLine.{bare, feed_shape, import_setup_shape, serve_shape}
use Rattle.desk_words.proofs.command_line.with_answering.Goals as goal

pub returns : goal.returns
returns c =
    let feed = c.in_ok-feed.ensures in
    let serve = c.in_ok-serve.ensures in
    let setup = c.in_ok-import_setup.ensures in
    let counts = c.in_ok-import_counts.ensures in
    let one : app_of c.in_ok-with_feed.with_feed ≡ with_subcommand bare feed_shape = c.in_ok-with_feed.ensures.shape feed.local ∙ ap₂ with_subcommand c.in_ok-tracedesk.ensures feed.shape in
    let two : app_of c.in_ok-with_serve.with_serve ≡ with_subcommand (with_subcommand bare feed_shape) serve_shape = c.in_ok-with_serve.ensures.shape serve.local ∙ ap₂ with_subcommand one serve.shape in
    let three : app_of c.in_ok-with_setup.with_setup ≡ with_subcommand (with_subcommand (with_subcommand bare feed_shape) serve_shape) import_setup_shape = c.in_ok-with_setup.ensures.shape setup.local ∙ ap₂ with_subcommand two setup.shape in
    IfOk-weaker c.subcommand-4.result _ _ (λ command added. added.shape counts.local ∙ ap₂ with_subcommand three counts.shape) c.subcommand-4.ensures
