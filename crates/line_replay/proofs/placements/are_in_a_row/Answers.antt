use Rattle.desk_types.proofs.Common.{◌≤◌, IfOk-weaker, rules}
use Rattle.line_replay.proofs.PlacementsFound.{run_range}
use Rattle.line_replay.proofs.placements.are_in_a_row.Goals as goal

pub returns-clause-found : goal.returns-clause-found
returns-clause-found g c clean =
    let low : c.args.first ≤ c.args.end = search rules in
    let shown = rw (c.in_ok-int.ensures, c.in_ok-int-2.ensures) at (c.in_ok-shown.ensures.shown clean) in
    IfOk-weaker c.are_rows.result _ _ (λ b same holds. run_range g.S.Store c.args.conn.now _ _ _ c.args.rows.now low shown (same holds)) (rw c.as_slice.ensures.value at c.are_rows.ensures)
