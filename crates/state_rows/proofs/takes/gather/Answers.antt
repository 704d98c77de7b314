use Rattle.desk_types.proofs.Common.{by_name, get}
use Rattle.state_rows.proofs.RowsLess.{gather-next, next-fits}
use Rattle.state_rows.proofs.takes.gather.Goals as goal

pub note-requires : goal.note-requires
note-requires g c =
    let fits = c.requires.fits in
    record {
      fits = (
        fits.0,
        fits.1,
        next-fits fits.0.history c.args.takes.now c.loop-take.take-index c.take-item.result (get by_name c.loop-take.rows) c.loop-take-test.true c.take-item.is fits.2
            (c.loop-take.invariant fits.0 fits.1),
      );
    }

pub loop-take-preserved : goal.loop-take-preserved
loop-take-preserved g c = λ B stands r.
    gather-next B.history c.args.takes.now c.loop-take.take-index c.take-item.result (get by_name c.loop-take.rows) (get by_name c.note.new.rows) c.loop-take-test.true c.take-item.is
    (c.loop-take.invariant B stands) (c.in_ok-note.ensures B stands) r
