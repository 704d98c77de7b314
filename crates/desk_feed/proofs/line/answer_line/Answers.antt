use Rattle.desk_types.proofs.Common.{◌∙◌, ap, arith, length, rules, subst}
use Rattle.desk_feed.proofs.AnsweredLines.{one_shorter, told_too_long}
use Rattle.desk_feed.specs.{Lines.without_return, Taking.HoldsLine, declared.taking.RawLine.RawLine}
use Rattle.desk_feed.proofs.line.answer_line.Goals as goal

pub returns-in-NoMemory-clause-answer : goal.returns-in-NoMemory-clause-answer
returns-in-NoMemory-clause-answer g c = λ bytes holds G stands trusts. (G.history, stands, search rules)

pub returns-in-Over-clause-answer : goal.returns-in-Over-clause-answer
returns-in-Over-clause-answer g c = λ bytes holds G stands trusts.
    let over = subst (λ (raw : RawLine). HoldsLine raw bytes) c.in-Over.is holds in
    (G.history, stands, told_too_long G.rules G.greatest G.history bytes (omega (arith, one_shorter bytes)))

pub returns-then-too_long-clause-answer : goal.returns-then-too_long-clause-answer
returns-then-too_long-clause-answer g c = λ bytes holds G stands trusts.
    let whole = subst (λ (raw : RawLine). HoldsLine raw bytes) c.in-Whole.is holds in
    let line = c.without_return-bytes.ensures ∙ ap without_return (c.deref.ensures.value ∙ whole.0) in
    (G.history, stands, told_too_long G.rules G.greatest G.history bytes (omega (arith, ap length line)))
