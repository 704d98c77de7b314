use Rattle.desk_types.proofs.Common.{◌∙◌, ◌≡◌, ap₂, IfOk-weaker}
use Rattle.clap.specs.Simple.{App, app_of, with_subcommand}
use Rattle.line_words.specs.CommandLine.{bare, doubt_shape, file_shape, note_shape, serve_shape, state_shape, task_name}
use Rattle.line_words.specs.declared.command_line.Task.TheVariants.{Book, Make}
use Rattle.line_words.proofs.command_line.commands.Goals as goal

abbrev with-two : App
with-two = with_subcommand (with_subcommand bare serve_shape) (file_shape (task_name Make))

abbrev with-three : App
with-three = with_subcommand with-two note_shape

abbrev with-four : App
with-four = with_subcommand with-three state_shape

abbrev with-five : App
with-five = with_subcommand with-four (file_shape (task_name Book))

abbrev with-six : App
with-six = with_subcommand with-five doubt_shape

pub returns : goal.returns
returns c =
    let serve = c.in_ok-serve.ensures in
    let make = c.in_ok-make.ensures in
    let note = c.in_ok-note.ensures in
    let state = c.in_ok-state.ensures in
    let book = c.in_ok-book.ensures in
    let doubt = c.in_ok-doubt.ensures in
    let audit = c.in_ok-audit.ensures in
    let one : app_of c.in_ok-with_serve.with_serve ≡ with_subcommand bare serve_shape =
    c.in_ok-with_serve.ensures.shape serve.local ∙ ap₂ with_subcommand c.in_ok-program.ensures serve.shape in
    let two : app_of c.in_ok-with_make.with_make ≡ with-two =
    c.in_ok-with_make.ensures.shape make.local ∙ ap₂ with_subcommand one make.shape in
    let three : app_of c.in_ok-with_note.with_note ≡ with-three =
    c.in_ok-with_note.ensures.shape note.local ∙ ap₂ with_subcommand two note.shape in
    let four : app_of c.in_ok-with_state.with_state ≡ with-four =
    c.in_ok-with_state.ensures.shape state.local ∙ ap₂ with_subcommand three state.shape in
    let five : app_of c.in_ok-with_book.with_book ≡ with-five =
    c.in_ok-with_book.ensures.shape book.local ∙ ap₂ with_subcommand four book.shape in
    let six : app_of c.in_ok-with_doubt.with_doubt ≡ with-six =
    c.in_ok-with_doubt.ensures.shape doubt.local ∙ ap₂ with_subcommand five doubt.shape in
    IfOk-weaker c.subcommand-7.result _ _
    (λ command added. added.shape audit.local ∙ ap₂ with_subcommand six audit.shape) c.subcommand-7.ensures
