use Rattle.desk_types.proofs.Common.{take}
use Rattle.line_tables.proofs.Common.{HasCleanDisk, state}
use Rattle.line_tables.specs.Frames.{InTransaction}
use Rattle.line_book_store.specs.Together.{NotesAll}
use Rattle.line_book_store.proofs.together.put_entries.Given as goal

abbrev pub invariant-loop-entry : goal.invariant-loop-entry
invariant-loop-entry g l =
    let old = state g.S.Store l.fn.tx.conn.now in
    let now = state g.S.Store l.tx.conn.now in record {
      noted : HasCleanDisk now → NotesAll (take l.entry-index l.entries) old now;
      within : InTransaction g.S.Store l.fn.tx l.tx;
    }
