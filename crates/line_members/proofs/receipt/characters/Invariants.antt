use Rattle.desk_types.proofs.Common.{◌≡◌, ◌≤◌, count_by, take}
use Rattle.line_members.specs.Receipt.{begins_character}
use Rattle.line_members.proofs.receipt.characters.Given as goal

-- The characters of the bytes so far are counted.
abbrev pub invariant-loop-byte : goal.invariant-loop-byte
invariant-loop-byte l = (l.count ≡ count_by begins_character (take l.byte-index l.text)) × (l.count ≤ l.byte-index)
