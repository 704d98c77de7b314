use Rattle.desk_types.proofs.Common.{arith, err_from_is_err_and, List, subst}
use Rattle.line_tables.proofs.Common.{HasCleanDisk, KeepsCommit, RowEdit, state}
use Rattle.line_replay.proofs.{ExpectedRows.looks_back, OneRowMore.fault_stuck, OneRowMore.row_taken}
use Rattle.line_replay.specs.Expected.{LooksUp}
use Rattle.line_tables.proofs.Keeps.{keeps_then}
use Rattle.line_replay.proofs.taking.take_row.Goals as goal

pub returns-in_ok-look_up-in-Some-clause-ok : goal.returns-in_ok-look_up-in-Some-clause-ok
returns-in_ok-look_up-in-Some-clause-ok g c B stands numbered =
    let old = state g.S.Store c.args.conn.now in
    let first = state g.S.Store c.row_at.new.conn in
    let mid = state g.S.Store c.accept_first.new.conn in
    let After = HasCleanDisk (state g.S.Store c.look_up.new.conn) in
    let early : After → HasCleanDisk mid = λ clean. omega (arith, c.look_up.ensures.reads.survives.clean, clean) in
    let earlier : After → HasCleanDisk first = λ clean. omega (arith, c.accept_first.ensures.reads.survives.clean, early clean) in
    let kept : After → KeepsCommit old mid = λ clean. keeps_then old first mid (c.row_at.ensures.reads.kept (earlier clean)) (c.accept_first.ensures.reads.kept (early clean)) in
    let accepts = c.in_ok-edits-in-Some.ensures.ok B stands numbered in record {
      entry = accepts.entry;
      stands = accepts.stands;
      next = accepts.goes.next;
      row = λ clean. row_taken old first c.in_ok-found.found c.in-Some.row B.history accepts.entry c.args.number (c.row_at.ensures.reads.kept (earlier clean)) c.in-Some.is numbered accepts.goes.same (c.in_ok-found.ensures.found (earlier clean)) (accepts.first (early clean));
      edits = c.in_ok-edits-in-Some.edits;
      lead = accepts.lead;
      adds = record {
        rows = accepts.rows;
        placed = looks_back After old mid c.in_ok-edits-in-Some.edits c.args.placed.now c.look_up.new.placed kept (subst (λ (xs : List RowEdit). LooksUp After mid xs c.args.placed.now c.look_up.new.placed) c.as_slice.ensures c.in_ok-look_up-in-Some.ensures.ok);
      };
    }

pub returns-in_err-edits-in-Some-clause-err : goal.returns-in_err-edits-in-Some-clause-err
returns-in_err-edits-in-Some-clause-err g c B stands numbered clean =
    let old = state g.S.Store c.args.conn.now in
    let first = state g.S.Store c.row_at.new.conn in
    let early : HasCleanDisk first = omega (arith, c.accept_first.ensures.reads.survives.clean, clean) in
    let p = err_from_is_err_and c.from_residual-in_err-edits-in-Some.result c.from_residual-in_err-edits-in-Some.ensures.1 in
    rw (p.1, p.2) (fault_stuck B.rules old first c.in_ok-found.found c.in-Some.row B.history c.args.number (c.row_at.ensures.reads.kept early) c.in-Some.is numbered (c.in_ok-found.ensures.found early)
    c.in_err-edits-in-Some.field-0.0 (c.in_err-edits-in-Some.ensures.err B stands numbered clean))
