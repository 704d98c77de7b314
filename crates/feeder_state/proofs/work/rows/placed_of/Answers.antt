use Rattle.desk_types.proofs.Common.{[], ◌&&◌, ◌||◌, ◌∙◌, ◌≡◌, and_comm, ap, Bool, by_name, false, is_at}
use Rattle.desk_types.proofs.Common.{list_any, lookup, nat_list_cmp_total, refl, rules, same, sym, true}
use Rattle.desk_types.proofs.Common.{unwrap_or}
use Rattle.feeder_state.proofs.FilledMaps.{each-of, set-next}
use Rattle.feeder_state.proofs.RestoredWork.{among-group, has_such, such-all}
use Rattle.feeder_state.specs.Work.{is_placed_at}
use Rattle.state_rows.specs.Kept.{row_at}
use Rattle.feeder_state.proofs.work.rows.placed_of.Goals as goal

pub loop-board-init : goal.loop-board-init
loop-board-init c = λ b d.
    ap (λ entries. list_any (same d) (unwrap_or (lookup (is_at (by_name b)) entries) []) || has_such (list_any (same d)) b c.into_iter-board-iterator.result) c.new-placed.ensures.empty

pub loop-board-preserved : goal.loop-board-preserved
loop-board-preserved c = λ b d.
    let board = c.in-Some.board.now in
    let group = c.in-Some.group.now in
    let now = is_placed_at c.loop-board.placed b d in
    let rest = has_such (list_any (same d)) b c.next.new.self in
    let slice : c.as_slice.result.now ≡ group = search rules in
    set-next now (is_placed_at c.place.new.placed b d) (same board b && list_any (same d) group) rest _
    (c.in_ok-place.ensures b d ∙ ap (λ names. same board b && list_any (same d) names || now) slice) (
    ap (λ here. now || (here || rest)) (and_comm (same board b) (list_any (same d) group))
    ∙ ap (λ es. now || has_such (list_any (same d)) b es) (sym c.in-Some.ensures.steps)
    ∙ c.loop-board.invariant b d)

pub returns : goal.returns
returns c = λ H rows b d.
    let es = c.into_iter-board-iterator.result in
    let all : es ≡ c.in_ok-groups.groups.entries = search rules in
    last (is_placed_at c.loop-board.placed b d)
    ∙ ap (λ left. is_placed_at c.loop-board.placed b d || has_such (list_any (same d)) b left) (sym c.in-None.ensures.steps.0)
    ∙ c.loop-board.invariant b d
    ∙ such-all (list_any (same d)) b (row_at by_name es) es (each-of by_name nat_list_cmp_total es (row_at by_name es) (record { ascending = search rules; rows = λ k. refl })) (λ k. refl)
    ∙ among-group d b es
    ∙ ap (λ entries. list_any (same d) (unwrap_or (row_at by_name entries b) [])) all
    ∙ c.in_ok-groups.ensures H rows b d
  where
    last : (x : Bool) → x ≡ (x || false)
    last true = refl
    last false = refl
