use Rattle.desk_types.proofs.Common.{◌∙◌, Name, Option, pair-changed, pair-written, same_pair, Some, sym}
use Rattle.line_doubt.specs.declared.mark.Mark.{Mark}
use Rattle.line_doubt.specs.Marks.{best_in, better}
use Rattle.line_doubt.proofs.Taking.{raised}
use Rattle.line_doubt.proofs.best.raise.Goals as goal

pub returns : goal.returns
returns c = λ machine slot.
    let mark = c.args.mark.now in
    let best = c.args.best.now in
    let k : Name × Name = (mark.machine, mark.slot) in
    let new = c.better-new.result in
    pair-written _ _ k (Some new) (λ (o : Option Mark). o) c.in_ok-insert.ensures.updates.0 machine slot
    ∙ pair-changed c.best_in-old.result (Some new) (best_in best) (λ o. better o (Some mark)) k
    (sym c.best_in-old.ensures) (sym c.better-new.ensures) machine slot
    ∙ raised (same_pair k (machine, slot)) (best_in best machine slot) mark
