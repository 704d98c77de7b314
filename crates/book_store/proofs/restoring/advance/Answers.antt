use Rattle.desk_types.proofs.Common.{arith, subst, sym}
use Rattle.line_tables.proofs.Common.{HasCleanDisk}
use Rattle.line_book.specs.Guard.{IsGuard}
use Rattle.line_schema.specs.Stands.{state_of}
use Rattle.book_store.proofs.{InTurn.store_same, InTurn.store_then, Until.more_until}
use Rattle.book_store.specs.Restored.{history_until}
use Rattle.book_store.proofs.restoring.advance.Goals as goal

pub loop-i-init : goal.loop-i-init
loop-i-init g c = record {
  guard = λ L stands clean own order within B is. is;
  reads =
      store_same g.S.Store g.D.Desk.Stands c.args.store.now;
}

pub loop-i-preserved : goal.loop-i-preserved
loop-i-preserved g c =
    let was = c.loop-i.invariant in
    let i = c.loop-i.i in
    record {
      guard = λ L stands clean own order within B is.
          let early : HasCleanDisk (state_of g.S.Store c.loop-i.store) = omega
          (arith, c.command_of.ensures.reads.reads.survives.clean, clean) in
          let found = c.in_ok-stamped.ensures.found L (was.reads.stands L stands) clean own in
          subst (λ H. IsGuard H B c.accepted.new.self)
          (sym (more_until L.history i c.in_ok-stamped.stamped stands.judged (omega arith) found))
          (c.in_ok-accepted.ensures (history_until i L.history) B (was.guard L stands early own order within B is));
      reads = store_then g.S.Store g.D.Desk.Stands c.args.store.now c.loop-i.store c.command_of.new.store
          was.reads c.command_of.ensures.reads;
    }
