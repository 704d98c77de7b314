use Rattle.desk_types.proofs.Common.{[], ◌++◌, ◌+◌, ◌∙◌, ◌∷◌, ◌≡◌, ap, append-nil, arith, drop, drop-next}
use Rattle.desk_types.proofs.Common.{flat_map-append, name_twice, None, Ok, Some, sym, take, take-next}
use Rattle.desk_laws.proofs.Common.{SheetRow}
use Rattle.desk_types.specs.Refusals.{designators_of_rows}
use Rattle.setup_sheets.proofs.SeenNames.{name_twice-append_none, name_twice-append_some}
use Rattle.setup_sheets.proofs.sheet.designator_twice.Goals as goal

pub returns-in-Some : goal.returns-in-Some
returns-in-Some c =
    let rows = c.args.rows.now in
    let row = c.row-item.result in
    let i = c.loop-row.row-index in
    let before = designators_of_rows (take i rows) in
    let left : designators_of_rows (drop i rows) ≡ row.designators ++ designators_of_rows (drop (i + 1) rows) =
    ap designators_of_rows (drop-next rows i row (omega arith) c.row-item.is) in
    let here : name_twice before row.designators ≡ Some c.in-Some.designator =
    ap (name_twice before) (sym c.as_slice.ensures.value) ∙ sym (c.in_ok-designator.ensures.twice before c.loop-row.invariant.seen) ∙ c.in-Some.is in
    sym (c.loop-row.invariant.none ∙ ap (name_twice before) left
    ∙ name_twice-append_some before row.designators (designators_of_rows (drop (i + 1) rows)) c.in-Some.designator here)

pub loop-row-preserved : goal.loop-row-preserved
loop-row-preserved c =
    let rows = c.args.rows.now in
    let row = c.row-item.result in
    let i = c.loop-row.row-index in
    let before = designators_of_rows (take i rows) in
    let after = designators_of_rows (drop (i + 1) rows) in
    let seen = c.loop-row.invariant.seen in
    let more : designators_of_rows (take (i + 1) rows) ≡ before ++ row.designators =
    ap designators_of_rows (take-next rows i row (omega arith) c.row-item.is)
    ∙ flat_map-append (λ (r : SheetRow). r.designators) (take i rows) (row ∷ []) ∙ ap (λ l. before ++ l) (append-nil row.designators) in
    let left : designators_of_rows (drop i rows) ≡ row.designators ++ after = ap designators_of_rows (drop-next rows i row (omega arith) c.row-item.is) in
    let here : name_twice before row.designators ≡ None =
    ap (name_twice before) (sym c.as_slice.ensures.value) ∙ sym (c.in_ok-designator.ensures.twice before seen) ∙ c.in_default.is in
    record {
      seen = rw (more, ← c.as_slice.ensures.value) (c.twice_in.ensures.seen before seen (c.in_ok-designator.was ∙ ap Ok c.in_default.is));
      none = c.loop-row.invariant.none ∙ ap (name_twice before) left ∙ name_twice-append_none before row.designators after here
          ∙ ap (λ names. name_twice names after) (sym more);
    }
