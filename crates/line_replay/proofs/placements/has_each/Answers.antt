use Rattle.desk_types.proofs.Common.{[], ◌∙◌, ◌∷◌, ◌≡◌, ◌≤◌, arith, filter, length, subst, sym, take_all}
use Rattle.desk_types.proofs.Common.{true≢false}
use Rattle.line_tables.proofs.Common.{Has, HasCleanDisk, placement_columns, rows_in, state}
use Rattle.desk_types.specs.declared.row.PlacementRow.{PlacementRow}
use Rattle.line_replay.proofs.{PlacementsFound.all_here, PlacementsFound.looked_here}
use Rattle.line_replay.proofs.{PlacementsFound.one_missing, Verdicts.right_more}
use Rattle.line_replay.specs.Placed.{AreHere, has_placement}
use Rattle.line_tables.proofs.{Frames.reads_then, Keeps.reads_before}
use Rattle.line_tables.specs.Line as line
use Rattle.line_replay.proofs.placements.has_each.Goals as goal

pub returns-then-not-branch-clause-found : goal.returns-then-not-branch-clause-found
returns-then-not-branch-clause-found g c clean =
    let old = state g.S.Store c.args.conn.now in
    let mid = state g.S.Store c.loop-row.conn in
    let early : HasCleanDisk mid = omega (arith, c.has_placement.ensures.reads.survives.clean) in
    let told = reads_before old mid (c.loop-row.invariant.reads.kept early) _ (c.in_ok-has_placement.ensures.found clean) in
    let rows = rows_in line.placement old.committed in
    record {
      was_open = told.was_open;
      are = λ schema. one_missing old.committed c.args.rows.now c.loop-row.row-index c.row-item.result c.loop-row-test.true
          (λ h. true≢false (sym ((told.are schema).1 (subst (λ (p : PlacementRow). filter (has_placement p) rows ≡ placement_columns p ∷ []) (sym c.row-item.is) h)) ∙ c.if-not-branch.true));
    }

pub loop-row-preserved : goal.loop-row-preserved
loop-row-preserved g c =
    let old = state g.S.Store c.args.conn.now in
    let mid = state g.S.Store c.loop-row.conn in
    let new = state g.S.Store c.has_placement.new.conn in
    let was = c.loop-row.invariant in
    let early : HasCleanDisk new → HasCleanDisk mid = λ clean. omega (arith, c.has_placement.ensures.reads.survives.clean) in
    let told = λ (clean : HasCleanDisk new). reads_before old mid (was.reads.kept (early clean)) _ (c.in_ok-has_placement.ensures.found clean) in
    record {
      opened = λ clean some. (told clean).was_open;
      here = λ clean schema. right_more (λ (p : PlacementRow). Has (rows_in line.placement old.committed) (placement_columns p)) c.args.rows.now c.loop-row.row-index c.row-item.result c.loop-row-test.true (was.here (early clean) schema)
          (subst (λ (p : PlacementRow). Has (rows_in line.placement old.committed) (placement_columns p)) c.row-item.is (looked_here old.committed c.row-item.result (((told clean).are schema).0 c.if-not-branch.false)));
      reads = reads_then g.S.Store c.args.conn.now c.loop-row.conn c.has_placement.new.conn was.reads c.has_placement.ensures.reads;
    }

pub returns-clause-found : goal.returns-clause-found
returns-clause-found g c clean =
    let old = state g.S.Store c.args.conn.now in
    let was = c.loop-row.invariant in
    let i = c.loop-row.row-index in
    let whole : length c.args.rows.now ≤ i = c.loop-row-test.false in
    record {
      was_open = was.opened clean (omega (arith, whole, c.requires.some));
      are = λ schema. all_here old.committed c.args.rows.now (subst (AreHere old.committed) (take_all i c.args.rows.now whole) (was.here clean schema));
    }
