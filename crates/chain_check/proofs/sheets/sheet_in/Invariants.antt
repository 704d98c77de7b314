use Rattle.desk_types.proofs.Common.{AllByRecursion, History, Name, ℕ}
use Rattle.desk_laws.proofs.Common.{SheetRow}
use Rattle.chain_check.proofs.SameSheets.{SameSheet}
use Rattle.chain_check.proofs.sheets.sheet_in.Given as goal

-- What holds of the keys that are left holds of all.
abbrev pub invariant-loop-key : goal.invariant-loop-key
invariant-loop-key g l = (H H' : History) → g.F.Facts.Stands l.old H → g.F.Facts.Stands l.new H'
    → AllByRecursion (λ (e : (Name × Name × ℕ) × SheetRow). SameSheet H H' e.0) l.key-iterator
    → AllByRecursion (λ (e : (Name × Name × ℕ) × SheetRow). SameSheet H H' e.0) l.initial.key-iterator
