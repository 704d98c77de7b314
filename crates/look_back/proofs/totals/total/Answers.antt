use Rattle.desk_types.proofs.Common.{◌-◌, ◌^◌, ◌∙◌, ap, min, reverse, sym, take_all}
use Rattle.look_back.{proofs.Ranges.total-fits, proofs.SumsOfTakes.total-kept, specs.Totals.taken_for}
use Rattle.std.{proofs.Common.sum_by, proofs.lemmas.List.reverse-reverse}
use Rattle.look_back.proofs.totals.total.Goals as goal

pub returns : goal.returns
returns c = λ H judged few are.
    let takes = c.args.takes.now in
    let usage = c.args.usage in
    let reel = c.args.reel.now in
    let all = take_all c.loop-last.last-index takes c.loop-last-test.false ∙ sym (reverse-reverse takes) in
    c.loop-last.invariant
    ∙ ap (λ ts. min (sum_by (λ t. taken_for usage t reel) ts) (2 ^ 64 - 1)) all
    ∙ ap (λ n. min n (2 ^ 64 - 1)) (total-kept usage H (reverse takes) reel are)
    ∙ total-fits usage H reel judged few
