use Rattle.desk_types.proofs.Common.{[], ◌++◌, ◌∙◌, ◌∷◌, ◌≡◌, ap, List, map, Name, subst, take, take_all}
use Rattle.chain_check.{proofs.WrittenRows.row-next, specs.Rows.name_row, specs.Rows.rows_text}
use Rattle.trace_reports.{specs.Csv.HasWritten, specs.Csv.record_text, specs.Sets.Fields}
use Rattle.chain_check.proofs.rows.write_names.Goals as goal

pub loop-name-preserved : goal.loop-name-preserved
loop-name-preserved c text written =
    let path = c.args.path.now in
    let names = c.args.names.now in
    let i = c.loop-name.name-index in
    let name = c.name-item.result in
    let before = text ++ rows_text (map (name_row path) (take i names)) in
    let fields : c.as_bytes.result.now ∷ c.as_bytes-in-loop-name.result.now ∷ [] ≡ name_row path name = λ j. c.as_bytes.ensures.value j ∷ c.as_bytes-in-loop-name.ensures.value j ∷ [] in
    subst (HasWritten c.write_fields.new.writer) (
    ap (λ (row : Fields). before ++ record_text row) fields ∙ row-next (name_row path) names i name text c.loop-name-test.true c.name-item.is)
    (c.in_ok-write_fields.ensures before (c.loop-name.invariant text written))

pub returns : goal.returns
returns c text written =
    subst (λ (names : List Name). HasWritten c.loop-name.writer (text ++ rows_text (map (name_row c.args.path.now) names)))
    (take_all c.loop-name.name-index c.args.names.now c.loop-name-test.false) (c.loop-name.invariant text written)
