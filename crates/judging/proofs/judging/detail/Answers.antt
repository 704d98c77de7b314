use Rattle.desk_types.proofs.Common.{◌-◌, ◌^◌, ◌∙◌, ap, detail_of, IsCommand, IsCountRow, IsListOf, min}
use Rattle.desk_types.proofs.Common.{picks_of, pieces_of, subst, sym}
use Rattle.desk_laws.proofs.Common.{Taken}
use Rattle.judging.proofs.PicksOfCommands.{count-fits, scrap-fits}
use Rattle.judging.proofs.judging.detail.Goals as goal

pub returns-in-MaterialsScrapped : goal.returns-in-MaterialsScrapped
returns-in-MaterialsScrapped g c = λ H stands are.
    let a = c.in-MaterialsScrapped in
    let range = subst IsCommand a.is c.ranges_hold.ensures in
    ap Taken (c.pieces_of.ensures ∙ ap (λ ps. min (pieces_of ps) (2 ^ 64 - 1)) (are ∙ ap (picks_of H) a.is) ∙ scrap-fits H a.machine a.slot a.quantity range.2.1)
    ∙ sym (ap (detail_of H c.args.minute) a.is)

pub returns-in-CountsTaken : goal.returns-in-CountsTaken
returns-in-CountsTaken g c = λ H stands are.
    let a = c.in-CountsTaken in
    let range : IsListOf IsCountRow a.counts = subst IsCommand a.is c.ranges_hold.ensures in
    ap Taken (c.pieces_of-in-CountsTaken.ensures ∙ ap (λ ps. min (pieces_of ps) (2 ^ 64 - 1)) (are ∙ ap (picks_of H) a.is) ∙ count-fits H a.counts (g.met.F.Facts.is_judged c.args.facts.now H stands) range.count.1)
    ∙ sym (ap (detail_of H c.args.minute) a.is)
