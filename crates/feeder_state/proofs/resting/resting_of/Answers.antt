use Rattle.desk_types.proofs.Common.{◌&&◌, ◌||◌, ◌∙◌, ap, by_name, or-false, part_of, rules, same, subst, sym}
use Rattle.feeder_state.proofs.{AtRest.has_resting, AtRest.rests-rows, FilledMaps.set-next}
use Rattle.feeder_state.specs.{Resting.row_rests, Sets.is_name_at}
use Rattle.state_rows.specs.Kept.{Lists, tables_in, unnumbered}
use Rattle.feeder_state.proofs.resting.resting_of.Goals as goal

pub loop-name-preserved-in-Continue-1 : goal.loop-name-preserved-in-Continue-1
loop-name-preserved-in-Continue-1 c = λ p r.
    let rows = c.args.rows.now in
    let name = c.in-Some.name.now in
    let row = c.in-Some.row.now in
    let now = is_name_at c.loop-name.resting p r in
    let here = same row.part p && same name r in
    let rest = has_resting rows p r c.next.new.self in
    set-next now _ here rest _ (c.in_ok-put_name.ensures p r) (
    ap (λ at_rest. now || ((at_rest && here) || rest)) (sym c.if-is_at_rest.true ∙ c.is_at_rest.ensures.row ∙ ap (λ on_slot. row_rests on_slot row) c.is_mounted.ensures)
    ∙ ap (λ es. now || has_resting rows p r es) (sym c.in-Some.ensures.steps)
    ∙ c.loop-name.invariant p r)

pub returns : goal.returns
returns c = λ H rows r rest.
    let kept = c.args.rows.now in
    let part = part_of H r in
    let es = c.into_iter-name-iterator.result in
    let lists : Lists by_name es (tables_in kept).reels = subst (λ xs. Lists by_name xs (tables_in kept).reels) (search rules) c.reels-name-items.ensures in
    let now = is_name_at c.loop-name.resting part r in
    sym (or-false now)
    ∙ ap (λ left. now || has_resting kept part r left) (sym c.in-None.ensures.steps.0)
    ∙ c.loop-name.invariant part r
    ∙ rests-rows H kept r es (record { judged = rows.judged; same = ap unnumbered rows.tables }) lists.rows rest
