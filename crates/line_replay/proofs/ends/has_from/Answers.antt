use Rattle.desk_types.proofs.Common.{◌≡◌, length, rules}
use Rattle.line_replay.proofs.PlacementEnds.{none_from}
use Rattle.line_replay.proofs.ends.has_from.Goals as goal

pub returns-clause-none : goal.returns-clause-none
returns-clause-none g c clean none =
    let empty : length c.in_ok-rows.rows.items ≡ 0 = search rules in
    none_from g.S.Store c.args.conn.now c.args.first _ (rw c.in_ok-int.ensures at (c.in_ok-rows.ensures.shown clean)) empty
