use Rattle.desk_types.proofs.Common.{◌∙◌, ◌≡◌, ap, rules}
use Rattle.desk_answers.specs.Texts.{accepted_text}
use Rattle.line_replay.proofs.EditsOfChanges.{put_is, put_new}
use Rattle.line_replay.proofs.edits.prepare.Goals as goal

pub returns-clause-edits : goal.returns-clause-edits
returns-clause-edits g c greatest B stands is numbered =
    let change = c.args.change.now in
    let number : c.from.result ≡ c.args.number = search rules in
    let again : c.from-2.result ≡ c.args.number = search rules in
    put_is greatest c.args.number B.history change c.in_ok-text.text c.in_ok-row.row c.in_ok-edits.edits c.in_ok-row.ensures is numbered
    (c.in_ok-text.ensures ∙ ap (λ n. accepted_text n change.stamped.uid change.detail) number) (c.in_ok-edits.ensures.lead B stands (again ∙ numbered))

pub returns-clause-new : goal.returns-clause-new
returns-clause-new g c greatest B stands numbered =
    let again : c.from-2.result ≡ c.args.number = search rules in
    let new = c.in_ok-edits.ensures.new B stands (again ∙ numbered) in
    put_new greatest B.history c.in_ok-row.row c.in_ok-edits.edits new
