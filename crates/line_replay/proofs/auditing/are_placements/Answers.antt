use Rattle.desk_types.proofs.Common.{◌&&◌, ◌==◌, Bool, subst, sym}
use Rattle.line_tables.proofs.Common.{state}
use Rattle.line_replay.proofs.PlacementsAsExpected.{same_placements}
use Rattle.line_replay.specs.{Alone.Decides, Audit.HasPlacements}
use Rattle.line_replay.proofs.auditing.are_placements.Goals as goal

pub returns-then-placed-clause-same : goal.returns-then-placed-clause-same
returns-then-placed-clause-same g c clean f es expected =
    let old = state g.S.Store c.args.conn.now in
    let placed = c.args.placed in
    let n = c.in_ok-count.count in
    subst (λ (b : Bool). Decides (λ db. HasPlacements db f) old (b && (n == placed.count))) c.if-placed.true (same_placements old placed n es f expected (c.in_ok-count.ensures.counted clean))

pub returns-else-placed-clause-same : goal.returns-else-placed-clause-same
returns-else-placed-clause-same g c clean f es expected =
    let old = state g.S.Store c.args.conn.now in
    let placed = c.args.placed in
    let n = c.in_ok-count.count in
    let told = subst (λ (b : Bool). Decides (λ db. HasPlacements db f) old (b && (n == placed.count))) c.if-placed.false (same_placements old placed n es f expected (c.in_ok-count.ensures.counted clean)) in
    subst (λ (b : Bool). Decides (λ db. HasPlacements db f) old b) (sym c.if-placed.false) told
