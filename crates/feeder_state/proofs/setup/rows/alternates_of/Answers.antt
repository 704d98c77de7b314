use Rattle.desk_types.proofs.Common.{◌&&◌, ◌||◌, ◌∙◌, ap, rules, same, same-sym, sym, Tables}
use Rattle.feeder_state.{proofs.FilledMaps.set-next, proofs.NameSets.none-in, specs.Sets.is_name_at}
use Rattle.setup_sheets.specs.Alternates.{is_pair_among}
use Rattle.feeder_state.proofs.setup.rows.alternates_of.Goals as goal

pub loop-pair-init : goal.loop-pair-init
loop-pair-init c = λ H rows p q.
    ap (λ b. b || is_pair_among c.into_iter-pair-iterator.result p q) (none-in c.new-alternates.result p q c.new-alternates.ensures.empty)
    ∙ ap (λ pairs. is_pair_among pairs p q) (search rules)
    ∙ c.alternate_set.ensures p q
    ∙ ap (λ (t : Tables). t.alternates p q) rows.tables

pub loop-pair-preserved : goal.loop-pair-preserved
loop-pair-preserved c = λ H rows p q.
    let pair = c.in-Some.pair.now in
    let now = is_name_at c.loop-pair.alternates p q in
    let rest = is_pair_among c.next.new.self p q in
    set-next now _ (same pair.0 p && same pair.1 q) rest _ (c.in_ok-put_name.ensures p q) (
    ap (λ b. now || ((b && same pair.1 q) || rest)) (same-sym pair.0 p)
    ∙ ap (λ b. now || ((same p pair.0 && b) || rest)) (same-sym pair.1 q)
    ∙ ap (λ pairs. now || is_pair_among pairs p q) (sym c.in-Some.ensures.steps)
    ∙ c.loop-pair.invariant H rows p q)
