use Rattle.desk_types.proofs.Common.{[], ◌∷◌, append-nil, arith, basis, refl, sym}
use Rattle.line_tables.proofs.Common.{HasCleanDisk, state}
use Rattle.chain_stores.{proofs.NextOfFirst.next-prefix, specs.First.TakesNext}
use Rattle.line_replay.proofs.ReadOfCommitted.{reads_back}
use Rattle.line_tables.proofs.Frames.{reads_same, reads_then}
use Rattle.chain_stores.proofs.first.first_desk.Goals as goal

pub loop-number-init : goal.loop-number-init
loop-number-init g c = record {
  first = record {
    first = [];
    stands = c.fresh-desk.ensures;
    judged = tt;
    counted = refl;
    prefix = λ greatest G holds clean. (G, sym (append-nil G));
  };
  reads = reads_same g.S.Store c.args.conn.now;
}

pub loop-number-preserved : goal.loop-number-preserved
loop-number-preserved g c =
    let F = g.D.Desk.Stands in
    let old = state g.S.Store c.args.conn.now in
    let mid = state g.S.Store c.loop-number.conn in
    let After = HasCleanDisk (state g.S.Store c.take_row.new.conn) in
    let was = c.loop-number.invariant in
    let P = was.first.first in
    let early : After → HasCleanDisk mid = λ clean. omega (arith, c.take_row.ensures.reads.survives.clean, clean) in
    let told = c.if-not-take_row.false in
    let next = c.take_row.ensures.takes (basis c.args.rules P) was.first.stands (omega (arith, was.first.counted)) told in
    let takes : TakesNext F c.args.rules After old P c.take_row.new.desk = record {
      entry = next.entry;
      stands = next.stands;
      next = next.next;
      row = λ clean. reads_back old mid _ (was.reads.kept (early clean)) (next.row clean);
    } in
    record {
      first = record {
        first = takes.entry ∷ P;
        stands = takes.stands;
        judged = (takes.next, was.first.judged);
        counted = omega (arith, was.first.counted);
        prefix = λ greatest G holds clean.
            next-prefix F c.args.rules After old P c.take_row.new.desk (c.rows_tell_lists_apart.ensures c.args.rules) was.first.judged takes greatest G holds clean (was.first.prefix greatest G holds (early clean));
      };
      reads = reads_then g.S.Store c.args.conn.now c.loop-number.conn c.take_row.new.conn was.reads c.take_row.ensures.reads;
    }
