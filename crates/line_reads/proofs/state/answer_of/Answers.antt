use Rattle.desk_types.proofs.Common.{◌∙◌, ◌≡◌, ap, basis, length, rules, sym}
use Rattle.desk_laws.proofs.Common.{Two}
use Rattle.http_stream.specs.declared.response.Status.TheVariants.{NotFound}
use Rattle.line_answers.specs.State.{state_text}
use Rattle.line_reads.specs.Ends.{json_told, told_state}
use Rattle.line_reads.proofs.state.answer_of.Goals as goal

pub returns-in-Some : goal.returns-in-Some
returns-in-Some c H B stands guard counted =
    let same : c.from.result ≡ c.args.line.now.commands = search rules in
    let number : c.from.result ≡ length H = same ∙ counted in
    let board = c.board_on.ensures H B guard in
    let text : c.in_ok-text.field-0 ≡ state_text H B c.args.machine.now = c.in_ok-text.ensures (basis Two H) B stands
    guard (λ i. record { number = number i; board = board i }) in
    ap told_state (sym c.in-Some.is ∙ text)

pub returns-in_ok-not_found_text-in-None : goal.returns-in_ok-not_found_text-in-None
returns-in_ok-not_found_text-in-None c H B stands guard counted =
    let same : c.from.result ≡ c.args.line.now.commands = search rules in
    let number : c.from.result ≡ length H = same ∙ counted in
    let board = c.board_on.ensures H B guard in
    let text : c.in_ok-text.field-0 ≡ state_text H B c.args.machine.now = c.in_ok-text.ensures (basis Two H) B stands
    guard (λ i. record { number = number i; board = board i }) in
    ap (json_told NotFound) c.in_ok-not_found_text-in-None.ensures ∙ ap told_state (sym c.in-None.is ∙ text)
