use Rattle.desk_types.proofs.Common.{◌+◌, ◌++◌, ◌-◌, ◌∙◌, ◌≡◌, ap, ap₂, arith, length, length-take-le, option_to_list, sym, take}
use Rattle.desk_types.proofs.Common.{take-next}
use Rattle.desk_types.specs.declared.limits.TheConstants.{GREATEST_MINUTE}
use Rattle.line_doubt.specs.Late.{from_end, handled_mark}
use Rattle.line_doubt.specs.Sources.{marks_by}
use Rattle.line_doubt.proofs.Histories.{marks-last}
use Rattle.line_doubt.proofs.handling.handled_from_end.Goals as goal

pub loop-i-preserved : goal.loop-i-preserved
loop-i-preserved c =
    let commands = c.args.commands.now in
    let many = length commands in
    let i = c.loop-i.i in
    let s = c.index-commands-i.result in
    let long = length-take-le i commands (omega arith) in
    let number : 1 + length (take i commands) ≡ i + 1 = omega (arith, long) in
    c.in_ok-keep.ensures
    ∙ ap₂ (λ l o. l ++ option_to_list o) c.loop-i.invariant
    (c.handled_mark-mark.ensures
    ∙ ap (λ m. handled_mark (many - (i + 1)) (GREATEST_MINUTE - m) (i + 1) s.command) c.get-minute.ensures.value)
    ∙ sym (ap (marks_by (from_end many) 1) (take-next commands i s (omega arith) c.index-commands-i.is)
    ∙ marks-last (from_end many) 1 (take i commands) s
    ∙ ap (λ k. marks_by (from_end many) 1 (take i commands) ++ option_to_list (from_end many k s)) number)
