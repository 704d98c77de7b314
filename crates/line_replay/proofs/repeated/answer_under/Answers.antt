use Rattle.desk_types.proofs.Tabs.{texts_apart}
use Rattle.desk_types.proofs.Common.{◌∙◌, ◌≡◌, ap, ap₂, rules, string_bytes}
use Rattle.desk_answers.specs.declared.answer.Answer.TheVariants.{Accepted, IdReused}
use Rattle.line_replay.proofs.Repeats.{again, reused}
use Rattle.line_replay.proofs.repeated.answer_under.Goals as goal

pub returns-then-is_row_of : goal.returns-then-is_row_of
returns-then-is_row_of c G e is_entry uid row =
    let number : c.from-number.result ≡ c.args.row.number = search rules in
    let bytes : c.new.result ≡ string_bytes c.args.row.detail = search rules in
    ap₂ (λ n t. Accepted n t) number bytes
    ∙ again texts_apart c.args.row G e c.args.stamped.now c.in_ok-text.text is_entry c.ranges_hold.ensures.command c.in_ok-text.ensures uid row (c.is_row_of.ensures.0 c.if-is_row_of.true)

pub returns : goal.returns
returns c G e is_entry uid row =
    let number : c.from-number.result ≡ c.args.row.number = search rules in
    ap IdReused number
    ∙ reused texts_apart c.args.row G e c.args.stamped.now c.in_ok-text.text is_entry c.ranges_hold.ensures.command c.in_ok-text.ensures uid row
    (λ same. let is = c.is_row_of.ensures.1 same in let no = c.if-is_row_of.false in absurd cc)
