use Rattle.desk_types.proofs.Common.{◌==◌, ◌≡◌, length, rules}
use Rattle.line_traces.proofs.FoundRows.{asks-lot}
use Rattle.line_traces.proofs.pieces.has_lot.Goals as goal

pub returns-clause-found : goal.returns-clause-found
returns-clause-found g c clean =
    let is : c.is_empty.result ≡ (length c.in_ok-rows.rows.items == 0) = search rules in
    asks-lot g.S.Store c.args.conn.now _ c.is_empty.result c.args.lot.now (rw c.as_bytes.ensures.value at (c.in_ok-rows.ensures.shown clean)) is
