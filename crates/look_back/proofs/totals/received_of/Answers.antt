use Rattle.desk_types.proofs.Common.{arith, reverse}
use Rattle.look_back.proofs.Ranges.{summed}
use Rattle.look_back.proofs.totals.received_of.Goals as goal

pub overflow_add-result : goal.overflow_add-result
overflow_add-result c =
    let r = c.requires in
    let H = reverse c.args.entries.now in
    let all = summed c.args.entries.now c.args.reel.now _ _ r.judged r.most
    (λ few. c.total-placed.ensures H r.judged few r.takes) (λ few. c.total-scrapped.ensures H r.judged few r.takes) in
    omega (arith, all.0, all.1)

pub overflow_add-result-2 : goal.overflow_add-result-2
overflow_add-result-2 c =
    let r = c.requires in
    let H = reverse c.args.entries.now in
    let all = summed c.args.entries.now c.args.reel.now _ _ r.judged r.most
    (λ few. c.total-placed.ensures H r.judged few r.takes) (λ few. c.total-scrapped.ensures H r.judged few r.takes) in
    omega (arith, c.left_of.ensures, all.0, all.1)

pub returns : goal.returns
returns c =
    let r = c.requires in
    let H = reverse c.args.entries.now in
    let all = summed c.args.entries.now c.args.reel.now _ _ r.judged r.most
    (λ few. c.total-placed.ensures H r.judged few r.takes) (λ few. c.total-scrapped.ensures H r.judged few r.takes) in
    omega (arith, c.left_of.ensures, all.0)
