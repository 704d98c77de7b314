use Rattle.std.proofs.Common.{◌≡◌, ◌≤◌, ℕ, Some, length}
use Rattle.sqlite.specs.State.{HasCleanDisk}
use Rattle.sqlite.specs.Held.{state}
use Rattle.desk_types.specs.declared.command.Entry.{Entry}
use Rattle.desk_types.specs.declared.rules.Rules.{Rules}
use Rattle.desk_types.specs.History.{History}
use Rattle.line_tables.specs.Frames.{ReadsOnly}
use Rattle.chain_stores.specs.Begin.{BegunSoFar, first_entry}
use Rattle.chain_stores.specs.First.{HoldsHistory}
use Rattle.chain_stores.proofs.begin.begun_with.Given as goal

abbrev pub invariant-loop-at : goal.invariant-loop-at
invariant-loop-at g l = record {
  bound : l.begun ≤ l.at;
  reads : ReadsOnly g.S.Store l.fn.conn l.conn;
  so_far : (rules : Rules) (greatest : ℕ) (G : History) (e : Entry)
      → HoldsHistory rules (state g.S.Store l.fn.conn) greatest G → l.fn.count ≡ length G
      → HasCleanDisk (state g.S.Store l.conn) → first_entry G ≡ Some e
      → e.stamped.uid ≡ l.fn.first → BegunSoFar G l.at l.begun;
}
