use Rattle.desk_types.proofs.Common.{◌++◌, ◌∙◌, ◌≡◌, ap, arith, drop_all, free_reels, List, map, Name, not}
use Rattle.desk_laws.proofs.Common.{ReelView}
use Rattle.setup_sheets.specs.Names.{is_among}
use Rattle.std.specs.List.{filter}
use Rattle.trace_reports.proofs.KitRows.{kit-end, kit-next}
use Rattle.trace_reports.specs.Kit.{enough, needed_by, reels_for}
use Rattle.trace_reports.proofs.kit.kit_rows.Goals as goal

pub loop-row-preserved : goal.loop-row-preserved
loop-row-preserved g c = λ B stands.
    let H = B.history in
    let inv = c.loop-row.invariant B stands in
    let names : List Name = inv.0 in
    let row = c.row-item.result in
    let chosen : List ReelView = c.as_slice-in-loop-row.result.now in
    let free : c.as_slice.result.now ≡ free_reels H row.part = c.as_slice.ensures ∙ c.in_ok-free.ensures B stands in
    let gets : chosen ≡ reels_for H c.args.boards names row =
    c.as_slice-in-loop-row.ensures.value
    ∙ c.in_ok-reels.ensures names inv.1
    ∙ ap (λ n. enough n (filter (λ (r : ReelView). not (is_among names r.reel)) c.as_slice.result.now)) c.needed_by-needed.ensures
    ∙ ap (λ l. enough (needed_by c.args.boards row) (filter (λ (r : ReelView). not (is_among names r.reel)) l)) free in (
      names ++ map (λ (r : ReelView). r.reel) chosen,
      c.in_ok-put_rows.ensures.given names inv.1,
      kit-next H c.args.boards names c.args.sheet.now c.loop-row.row-index row c.loop-row.kit.items c.put_rows.new.kit.items c.needed_by-needed.result chosen
          c.loop-row-test.true c.row-item.is c.needed_by-needed.ensures gets c.in_ok-put_rows.ensures.rows ∙ inv.2,
    )

pub returns : goal.returns
returns g c = λ B stands.
    let H = B.history in
    let inv = c.loop-row.invariant B stands in
    kit-end H c.args.boards inv.0 c.args.sheet.now c.loop-row.row-index c.loop-row.kit.items _ (drop_all c.loop-row.row-index c.args.sheet.now (omega (arith, c.loop-row-test.false))) inv.2
