use Rattle.desk_types.proofs.Common.{◌∙◌, ap, by_name, cond, in_work_on, is_at, lookup, name-written}
use Rattle.desk_types.proofs.Common.{nat_list_cmp_total, option_map_or, rules, same, Some, subst, sym, Tables}
use Rattle.feeder_state.proofs.FilledMaps.{AreOf, each-of}
use Rattle.feeder_state.proofs.RestoredWork.{IsRunning, running-first, running-last, running-next}
use Rattle.feeder_state.specs.Work.{running_at}
use Rattle.state_rows.specs.Kept.{Lists, tables_in}
use Rattle.feeder_state.proofs.work.rows.running_of.Goals as goal

pub loop-board-init : goal.loop-board-init
loop-board-init c =
    let es = c.into_iter-board-iterator.result in
    let boards = (tables_in c.args.rows.now).boards in
    let lists : Lists by_name es boards = subst (λ xs. Lists by_name xs boards) (search rules) c.boards-board-items.ensures in (
      each-of by_name nat_list_cmp_total es boards lists,
      λ H rows m.
          running-first H m es (running_at c.new-running.result m) rows.judged (λ b. lists.rows b ∙ ap (λ (t : Tables). t.boards b) rows.tables)
          (ap (lookup (is_at (by_name m))) c.new-running.ensures.empty),
    )

pub loop-board-preserved-in_ok-insert : goal.loop-board-preserved-in_ok-insert
loop-board-preserved-in_ok-insert c =
    let board = c.in-Some.board.now in
    let old = running_at c.loop-board.running in
    let each = subst (AreOf (tables_in c.args.rows.now).boards) c.in-Some.ensures.steps c.loop-board.invariant.0 in (
      each.1,
      λ H rows m.
          running-next H m board c.in-Some.row.now c.next.new.self (old m) (running_at c.insert.new.self m) rows.judged (sym (ap (λ (t : Tables). t.boards board) rows.tables) ∙ each.0)
          (subst (λ es. IsRunning es (in_work_on H m) (old m)) c.in-Some.ensures.steps (c.loop-board.invariant.1 H rows m))
          (name-written _ _ c.in-Some-machine.machine _ (λ o. o) c.in_ok-insert.ensures.updates.0 m ∙ ap (λ o. option_map_or (λ x. cond (same x m) (Some board) (old m)) o (old m)) (sym c.in-Some-machine.is)),
    )

pub loop-board-preserved : goal.loop-board-preserved
loop-board-preserved c =
    let board = c.in-Some.board.now in
    let old = running_at c.loop-board.running in
    let each = subst (AreOf (tables_in c.args.rows.now).boards) c.in-Some.ensures.steps c.loop-board.invariant.0 in (
      each.1,
      λ H rows m.
          running-next H m board c.in-Some.row.now c.next.new.self (old m) (old m) rows.judged (sym (ap (λ (t : Tables). t.boards board) rows.tables) ∙ each.0)
          (subst (λ es. IsRunning es (in_work_on H m) (old m)) c.in-Some.ensures.steps (c.loop-board.invariant.1 H rows m))
          (sym (ap (λ o. option_map_or (λ x. cond (same x m) (Some board) (old m)) o (old m)) c.in_default.is)),
    )

pub returns : goal.returns
returns c = λ H rows m.
    running-last (in_work_on H m) (running_at c.loop-board.running m)
    (subst (λ es. IsRunning es (in_work_on H m) (running_at c.loop-board.running m)) c.in-None.ensures.steps.0 (c.loop-board.invariant.1 H rows m))
