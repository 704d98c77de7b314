use Rattle.desk_types.proofs.Common.{[], ◌&&◌, ◌++◌, ◌||◌, ◌∙◌, ◌∷◌, ap, by_name, cond, is_at, is_at-by_name}
use Rattle.desk_types.proofs.Common.{list_any, lookup, rules, same, same-sym, same-true, subst, sym, Tables}
use Rattle.desk_types.proofs.Common.{unwrap_or}
use Rattle.feeder_state.{proofs.GroupedThings.grouped-name, proofs.PlacedDesignators.is_spot}
use Rattle.feeder_state.{proofs.PlacedDesignators.rows-placed, specs.Restored.group_at}
use Rattle.state_rows.specs.Kept.{by_piece, Lists, tables_in}
use Rattle.feeder_state.proofs.work.rows.designators_of.Goals as goal

pub loop-row-init : goal.loop-row-init
loop-row-init c = λ H rows b d.
    let es = c.into_iter-row-iterator.result in
    let pieces = (tables_in c.args.rows.now).placements in
    let lists : Lists by_piece es (λ k. pieces k.0 k.1) = subst (λ xs. Lists by_piece xs (λ k. pieces k.0 k.1)) (search rules) c.placements-row-items.ensures in
    ap (λ entries. list_any (same d) (unwrap_or (lookup (is_at (by_name b)) entries) []) || is_spot b d es) c.new-groups.ensures.empty
    ∙ rows-placed H b d es rows.judged (subst (λ f. Lists by_piece es (λ k. f k.0 k.1)) (ap (λ (t : Tables). t.placements) rows.tables) lists)

pub loop-row-preserved : goal.loop-row-preserved
loop-row-preserved c = λ H rows b d.
    let row = c.in-Some.row.now in
    let old = group_at by_name c.loop-row.groups in
    grouped-name (same row.board b) (old row.board) (old b) (group_at by_name c.gather.new.groups b) row.designator d (is_spot b d c.next.new.self)
    (c.in_ok-gather.ensures b ∙ ap (λ here. cond here (old row.board ++ row.designator ∷ []) (old b)) (is_at-by_name row.board b))
    (λ here. ap old (same-true row.board b here))
    ∙ ap (λ here. list_any (same d) (old b) || ((here && same d row.designator) || is_spot b d c.next.new.self)) (same-sym row.board b)
    ∙ ap (λ es. list_any (same d) (old b) || is_spot b d es) (sym c.in-Some.ensures.steps)
    ∙ c.loop-row.invariant H rows b d
