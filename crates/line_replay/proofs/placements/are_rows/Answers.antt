use Rattle.desk_types.proofs.Common.{◌<◌, ◌∙◌, ◌≡◌, ap, arith, get_or, length, length-map, map, rules, sym}
use Rattle.line_tables.proofs.Common.{placement_columns}
use Rattle.std.proofs.lemmas.List.{get_or-map, take_more_same}
use Rattle.line_replay.proofs.placements.are_rows.Goals as goal

pub loop-at-preserved : goal.loop-at-preserved
loop-at-preserved c =
    let shown = c.args.shown.now in
    let rows = c.args.rows.now in
    let i = c.loop-at.at in
    let s = c.index-shown-at.result in
    let r = c.index-rows-at.result in
    let as_many : length shown ≡ length rows = search rules in
    let within : i < length rows = c.loop-at-test.true in
    let one : get_or shown i s ≡ get_or (map placement_columns rows) i s =
    sym c.index-shown-at.is ∙ c.is_row.ensures.0 c.if-not-is_row.false ∙ c.in_ok-placement_values.ensures.ok ∙ ap placement_columns c.index-rows-at.is ∙ sym (get_or-map placement_columns rows i r s within) in
    take_more_same shown (map placement_columns rows) i s (omega (arith, as_many, within)) (omega (arith, within, length-map rows placement_columns)) c.loop-at.invariant one
