use Rattle.desk_types.proofs.Common.{◌++◌, ◌∙◌, ap, Appends, Appends-trans, rules, subst, sym, take}
use Rattle.std.proofs.{Math.Seq.take-add, lemmas.List.places, lemmas.List.take_rest}
use Rattle.desk_answers.proofs.sending.send.Goals as goal

pub loop-at-preserved : goal.loop-at-preserved
loop-at-preserved g c =
    let inv = c.loop-at.invariant in
    let all = c.args.bytes.now in
    let step = Appends-trans _ _ _ _ _ inv.2 c.in-Ok.ensures.bytes in
    let rest = ap (λ l. take c.loop-at.at all ++ take c.in-Ok.count l) (take_rest all c.loop-at.at) in
    (search (rules, places), search rules, subst (Appends _ _) (rest ∙ sym (take-add c.loop-at.at c.in-Ok.count all)) step)
