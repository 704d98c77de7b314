use Rattle.desk_types.proofs.Common.{All-nil, [], err_from_is_err_and, refl, subst, subst₂, sym, take}
use Rattle.desk_types.proofs.Common.{take-next, take_all}
use Rattle.book_store.proofs.Accepting.{placed_more, refused_here}
use Rattle.book_store.specs.Accepted.{ArePlacedAt}
use Rattle.book_store.proofs.store.accepting.read_all.Goals as goal

pub loop-row-init : goal.loop-row-init
loop-row-init c = subst (λ ns. ArePlacedAt c.args.reading.now c.args.place [] ns c.args.reading.now)
    (sym c.new-notes.ensures.items) (record { read = refl; placed = All-nil _ })

pub loop-row-preserved : goal.loop-row-preserved
loop-row-preserved c =
    let rows = c.args.rows.now in
    let i = c.loop-row.row-index in
    let row = c.row-item.result in
    let b = c.args.reading.now in
    let read = c.in_ok-note.ensures.read in
    subst₂ (λ rs ns. ArePlacedAt b c.args.place rs ns c.read_placed.new.reading)
    (sym (take-next rows i row c.loop-row-test.true c.row-item.is)) (sym c.in-Ok.ensures.items)
    (placed_more b c.loop-row.reading c.args.place (take i rows) c.loop-row.notes.items c.read_placed.new.reading
    row c.in_ok-note.note c.loop-row.invariant read.0 read.1 c.in_ok-note.ensures.placed)

pub returns-in_err-note-clause-err : goal.returns-in_err-note-clause-err
returns-in_err-note-clause-err c =
    let p = err_from_is_err_and c.from_residual.result c.from_residual.ensures.1 in
    rw (p.1, p.2) (refused_here c.args.reading.now c.loop-row.reading c.args.place c.args.rows.now
    c.loop-row.row-index c.row-item.result c.loop-row.notes.items c.loop-row-test.true c.row-item.is
    c.loop-row.invariant c.in_err-note.field-0.0 c.in_err-note.ensures.err)

pub returns-clause-read : goal.returns-clause-read
returns-clause-read c = subst (λ rs. ArePlacedAt c.args.reading.now c.args.place rs c.loop-row.notes.items
    c.loop-row.reading) (take_all c.loop-row.row-index c.args.rows.now c.loop-row-test.false) c.loop-row.invariant
