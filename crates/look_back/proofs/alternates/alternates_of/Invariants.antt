use Rattle.desk_types.proofs.Common.{reverse, take}
use Rattle.setup_sheets.specs.Alternates.{AreAlternates}
use Rattle.look_back.proofs.alternates.alternates_of.Given as goal

abbrev pub invariant-loop-entry : goal.invariant-loop-entry
invariant-loop-entry l = AreAlternates (reverse (take l.entry-index l.entries)) l.alternates
