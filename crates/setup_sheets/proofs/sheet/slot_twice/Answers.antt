use Rattle.desk_types.proofs.Common.{[], ◌++◌, ◌+◌, ◌∙◌, ◌∷◌, ◌≡◌, ap, arith, drop, drop-next, map-append}
use Rattle.desk_types.proofs.Common.{name_twice, slots_of_rows, sym, take, take-next}
use Rattle.desk_laws.proofs.Common.{SheetRow}
use Rattle.setup_sheets.proofs.SeenNames.{HasSeen-push, name_twice-new, was-new}
use Rattle.setup_sheets.proofs.sheet.slot_twice.Goals as goal

pub loop-row-preserved : goal.loop-row-preserved
loop-row-preserved c =
    let rows = c.args.rows.now in
    let row = c.row-item.result in
    let i = c.loop-row.row-index in
    let before = slots_of_rows (take i rows) in
    let after = slots_of_rows (drop (i + 1) rows) in
    let seen = c.loop-row.invariant.seen in
    let more : slots_of_rows (take (i + 1) rows) ≡ before ++ row.slot ∷ [] =
    ap slots_of_rows (take-next rows i row (omega arith) c.row-item.is) ∙ map-append (λ (r : SheetRow). r.slot) (take i rows) (row ∷ []) in
    let left : slots_of_rows (drop i rows) ≡ row.slot ∷ after = ap slots_of_rows (drop-next rows i row (omega arith) c.row-item.is) in
    let new = was-new c.loop-row.seen before row.slot c.in_ok-insert.field-0 seen c.in_ok-insert.ensures.added c.if-not-branch.false in
    record {
      seen = rw more (HasSeen-push c.loop-row.seen c.insert.new.self row.slot before seen c.in_ok-insert.ensures.updates.0);
      none = c.loop-row.invariant.none ∙ ap (name_twice before) left ∙ name_twice-new before row.slot after new ∙ ap (λ names. name_twice names after) (sym more);
    }
