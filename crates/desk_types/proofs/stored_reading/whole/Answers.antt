use Rattle.desk_types.proofs.Common.{[], ◌++◌, ◌∙◌, ◌≡◌, ap, append-nil, fields_in, fields_of, members_of}
use Rattle.desk_types.proofs.Common.{refl, sym}
use Rattle.desk_types.proofs.{Members.commands_apart, Members.word_of, Splitting.some_field}
use Rattle.desk_types.proofs.{Tabs.stored_text-fields_in, Whole.begins, Whole.said_in, Whole.unread}
use Rattle.desk_types.proofs.stored_reading.whole.Goals as goal

pub returns-in_default : goal.returns-in_default
returns-in_default c command is e = some_field c.args.text.now (sym c.new-fields.ensures ∙ c.in_default.ensures)

pub returns-in_default-read : goal.returns-in_default-read
returns-in_default-read c command is e =
    let fields = sym c.new-fields.ensures ∙ c.in-Some.ensures in
    let here = begins c.args.text.now command is e in
    c.in_default-read.ensures.refused (word_of command) cc

pub returns-in_err-command : goal.returns-in_err-command
returns-in_err-command c =
    unread c.args.text.now c.in-Some.first.now c.take_next.new.self c.members.new.fields c.in-Some-read.word (sym c.new-fields.ensures ∙ c.in-Some.ensures) c.in-Some-read.ensures.read
    c.in_err-command.field-0.0 c.from_residual.result c.from_residual.ensures.1 c.in_err-command.ensures

pub returns-then-not-is_empty : goal.returns-then-not-is_empty
returns-then-not-is_empty c command is e =
    let s = said_in c.args.text.now c.in-Some.first.now c.take_next.new.self c.in-Some-read.word (sym c.new-fields.ensures ∙ c.in-Some.ensures) c.in-Some-read.ensures.read command is e in
    let read = c.in_ok-command.ensures in
    let one = commands_apart c.in-Some-read.word c.in_ok-command.command command c.members.new.fields [] read.0 s.0 (sym read.1 ∙ s.1) in
    let wrong = c.if-not-is_empty.ensures.1 one.1 in
    cc

pub returns : goal.returns
returns c =
    let read = c.in_ok-command.ensures in
    let command = c.in_ok-command.command in
    let begun = sym c.new-fields.ensures ∙ c.in-Some.ensures in
    let word = c.in-Some-read.ensures.read in
    let rest = read.1 ∙ ap (λ left. members_of command ++ left) (c.if-not-is_empty.ensures.0 refl) ∙ append-nil (members_of command) in
    let fields : fields_in c.args.text.now ≡ fields_of command = cc in
    (stored_text-fields_in command c.args.text.now fields, read.0.0)
