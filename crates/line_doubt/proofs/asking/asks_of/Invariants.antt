use Rattle.desk_types.proofs.Common.{◌≡◌, map, take}
use Rattle.line_doubt.specs.Sources.{ask_of}
use Rattle.line_doubt.proofs.asking.asks_of.Given as goal

-- The pieces so far are asked about.
abbrev pub invariant-loop-piece : goal.invariant-loop-piece
invariant-loop-piece l = l.asks.items ≡ map ask_of (take l.piece-index l.placed)
