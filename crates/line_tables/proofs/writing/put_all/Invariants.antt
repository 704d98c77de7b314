use Rattle.desk_types.proofs.Common.{IsTrue, length}
use Rattle.line_tables.proofs.Common.{AreNew, command_edits, HasCleanDisk, Holds, IsDatabase, KeepsOthers}
use Rattle.line_tables.proofs.Common.{row_edits, state}
use Rattle.line_tables.{proofs.Puts.Remain, specs.Frames.InTransaction, specs.Rows.Tables}
use Rattle.line_tables.proofs.writing.put_all.Given as goal

abbrev pub invariant-loop-rest : goal.invariant-loop-rest
invariant-loop-rest g l =
    let old = state g.S.Store l.fn.tx.conn.now in
    let now = state g.S.Store l.tx.conn.now in record {
      left : HasCleanDisk now → Remain (command_edits l.row l.edits) (row_edits l.rest) old.now now.now;
      was_open : HasCleanDisk now → IsTrue old.is_open;
      sound : HasCleanDisk now → (tables : Tables) → Holds old.now tables → AreNew (command_edits l.row l.edits) tables → IsDatabase now.now;
      others : HasCleanDisk now → KeepsOthers old.now now.now;
      within : InTransaction g.S.Store l.fn.tx l.tx;
    }

abbrev pub decreases-loop-rest : goal.decreases-loop-rest
decreases-loop-rest g l = length l.rest
