use Rattle.desk_types.proofs.Common.{◌+◌, ◌-◌, ◌∙◌, ◌∷◌, ◌≡◌, ap, ap₂, arith, drop, drop-next, insert_key}
use Rattle.desk_types.proofs.Common.{List, map, sym}
use Rattle.desk_laws.proofs.Common.{Placement}
use Rattle.trace_reports.proofs.BorrowedSets.{put-same}
use Rattle.trace_reports.specs.Sets.{by_fields, bytes_of, set_of}
use Rattle.trace_reports.specs.Traces.{lot_columns, of_lot, project}
use Rattle.trace_reports.proofs.records.lot_rows.Goals as goal

pub loop-i-preserved : goal.loop-i-preserved
loop-i-preserved c =
    let pieces = c.args.pieces.now in
    let n = c.loop-i.i in
    let piece = c.index-pieces-i.result in
    let up : (n - 1) + 1 ≡ n = omega (arith, c.loop-i-test.true) in
    let told = λ (ps : List Placement). set_of (map (λ (p : Placement). project (lot_columns c.args.detail) (of_lot p)) ps) in
    ap (map (λ r. bytes_of r.items)) c.in_ok-insert.ensures.keys
    ∙ put-same (λ r. r.items) c.loop-i.rows.keys _
    ∙ ap₂ (λ set x. insert_key by_fields set x) c.loop-i.invariant c.in_ok-of_lot.ensures
    ∙ ap told (ap (λ k. piece ∷ drop k pieces) (sym up) ∙ sym (drop-next pieces (n - 1) piece (omega (arith, c.loop-i-test.true, c.loop-i.auto.i)) c.index-pieces-i.is))
