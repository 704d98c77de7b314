use Rattle.desk_types.proofs.Common.{◌+◌, ◌++◌, ◌∙◌, ◌≡◌, ap, ap₂, arith, length, length-take-le, option_to_list, sym, take}
use Rattle.desk_types.proofs.Common.{take-next}
use Rattle.desk_types.specs.declared.command.Stamped.{Stamped}
use Rattle.line_doubt.specs.Sources.{restart_mark, restart_marks}
use Rattle.line_doubt.proofs.Histories.{marks-last}
use Rattle.line_doubt.proofs.marking.restart_marks.Goals as goal

pub loop-i-preserved : goal.loop-i-preserved
loop-i-preserved c =
    let commands = c.args.commands.now in
    let i = c.loop-i.i in
    let s = c.index-commands-i.result in
    let long = length-take-le i commands (omega arith) in
    let number : 1 + length (take i commands) ≡ i + 1 = omega (arith, long) in
    c.in_ok-keep.ensures
    ∙ ap₂ (λ l o. l ++ option_to_list o) c.loop-i.invariant
    (c.restart_mark-mark.ensures ∙ ap (λ (x : Stamped). restart_mark (i + 1) x.command) (sym c.index-commands-i.is))
    ∙ sym (ap restart_marks (take-next commands i s (omega arith) c.index-commands-i.is)
    ∙ marks-last (λ n s. restart_mark n s.command) 1 (take i commands) s
    ∙ ap (λ k. restart_marks (take i commands) ++ option_to_list (restart_mark k s.command)) number)
