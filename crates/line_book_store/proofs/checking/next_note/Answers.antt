use Rattle.desk_types.proofs.Common.{[], ◌∙◌, ◌∷◌, ap, err_from_is_err_and}
use Rattle.line_tables.proofs.Common.{only, Row, state}
use Rattle.line_book_store.proofs.CheckedRows.{shelf_weaker, stuck_at}
use Rattle.line_book_store.specs.Checking.{IsAt}
use Rattle.line_book_store.proofs.checking.next_note.Goals as goal

pub returns-in_ok-note_of-in-Some-clause-ok : goal.returns-in_ok-note_of-in-Some-clause-ok
returns-in_ok-note_of-in-Some-clause-ok g c =
    let b = c.args.reading.now in
    let it = c.in_ok-note_of-in-Some.ensures.ok in (
      it.0,
      it.2,
      it.3,
      λ clean. shelf_weaker (state g.S.Store c.args.conn.now) _ (λ rows. IsAt rows b.entries it.0)
          (λ rows there. there ∙ ap only c.in-Some.is ∙ ap (λ (r : Row). r ∷ []) it.1) (c.in_ok-row.ensures.found clean),
    )

pub returns-in_err-note_of-in-Some-clause-err : goal.returns-in_err-note_of-in-Some-clause-err
returns-in_err-note_of-in-Some-clause-err g c clean =
    let p = err_from_is_err_and c.from_residual-in_err-note_of-in-Some.result c.from_residual-in_err-note_of-in-Some.ensures.1 in
    rw (p.1, p.2) (stuck_at (state g.S.Store c.args.conn.now) _ c.in-Some.row c.args.reading.now c.in_err-note_of-in-Some.field-0.0 c.in-Some.is (c.in_ok-row.ensures.found clean) c.in_err-note_of-in-Some.ensures.err)
