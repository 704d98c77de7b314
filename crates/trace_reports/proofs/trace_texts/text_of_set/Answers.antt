use Rattle.desk_types.proofs.Common.{◌++◌, ◌∙◌, ◌∷◌, ◌≡◌, ap, append_assoc, List, map, sym, ℕ}
use Rattle.std.proofs.Common.{flat_map}
use Rattle.trace_reports.specs.{Csv.record_text, Sets.bytes_of}
use Rattle.trace_reports.proofs.trace_texts.text_of_set.Goals as goal

pub loop-row-preserved : goal.loop-row-preserved
loop-row-preserved c =
    let inv = c.loop-row.invariant in
    let row = c.in-Some.row.now in
    let rest : List ℕ = flat_map record_text (map (λ r. bytes_of r.items) c.next.new.self) in
    let step : c.loop-row.row-iterator ≡ row ∷ c.next.new.self = c.in-Some.ensures.steps in
    let written = c.in_ok-write_fields-2.ensures inv.0 inv.1 in
    let value : c.as_slice.result.now ≡ row.items = c.as_slice.ensures.value in (
      inv.0 ++ record_text (bytes_of row.items),
      rw value at written,
      append_assoc inv.0 (record_text (bytes_of row.items)) rest ∙ ap (λ rows. inv.0 ++ flat_map record_text (map (λ r. bytes_of r.items) rows)) (sym step) ∙ inv.2,
    )
