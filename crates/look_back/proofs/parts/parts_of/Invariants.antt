use Rattle.desk_types.proofs.Common.{◌≡◌, is_part, Name, reverse, take}
use Rattle.setup_sheets.specs.Names.{is_among}
use Rattle.look_back.proofs.parts.parts_of.Given as goal

abbrev pub invariant-loop-entry : goal.invariant-loop-entry
invariant-loop-entry l = (p : Name) → is_among l.parts p ≡ is_part (reverse (take l.entry-index l.entries)) p
