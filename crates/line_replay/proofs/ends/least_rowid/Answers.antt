use Rattle.desk_types.proofs.Common.{[], ◌∷◌, refl}
use Rattle.line_tables.proofs.Common.{Row, rowid}
use Rattle.line_replay.proofs.PlacementEnds.{select_least, select_least_is}
use Rattle.line_tables.proofs.Numbers.{finds_least_in}
use Rattle.line_replay.proofs.ends.least_rowid.Goals as goal

pub returns-clause-least : goal.returns-clause-least
returns-clause-least g c clean =
    finds_least_in g.S.Store select_least 17 _ select_least_is (λ (row : Row). rowid row ∷ []) (λ r. refl) c.args.conn.now _ c.least_of.result (rw c.as_slice.ensures.value at c.least_of.ensures.ok) (c.in_ok-rows.ensures.shown clean)
