use Rattle.desk_types.proofs.Common.{◌≡◌, IsTrue}
use Rattle.line_tables.proofs.Common.{HasCleanDisk}
use Rattle.line_book.specs.Restored.{history_of}
use Rattle.line_schema.specs.{Frames.ReadsStore, Stands.Kept, Stands.Stands, Stands.state_of}
use Rattle.book_store.specs.Restored.{history_until}
use Rattle.doubt_file.proofs.commands.commands_of.Given as goal

-- The commands so far are those of the history until then.
abbrev pub invariant-loop-i : goal.invariant-loop-i
invariant-loop-i g l = record {
  commands : (L : Kept) → Stands g.S.Store g.D.Desk.Stands l.fn.store L → HasCleanDisk (state_of g.S.Store l.store)
      → IsTrue L.own → history_of l.commands.items ≡ history_until l.i L.history;
  reads : ReadsStore g.S.Store g.D.Desk.Stands l.fn.store l.store;
}
