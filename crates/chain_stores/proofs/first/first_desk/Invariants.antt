use Rattle.line_tables.proofs.Common.{HasCleanDisk, ReadsOnly, state}
use Rattle.chain_stores.specs.First.{IsFirst}
use Rattle.chain_stores.proofs.first.first_desk.Given as goal

abbrev pub invariant-loop-number : goal.invariant-loop-number
invariant-loop-number g l = record {
  first : IsFirst g.D.Desk.Stands l.fn.rules (HasCleanDisk (state g.S.Store l.conn)) (state g.S.Store l.fn.conn) l.number l.desk;
  reads : ReadsOnly g.S.Store l.fn.conn l.conn;
}
