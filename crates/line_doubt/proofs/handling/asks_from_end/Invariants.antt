use Rattle.desk_types.proofs.Common.{◌≡◌, map, take}
use Rattle.line_doubt.specs.Late.{ask_from_end}
use Rattle.line_doubt.proofs.handling.asks_from_end.Given as goal

-- The pieces so far are asked about.
abbrev pub invariant-loop-piece : goal.invariant-loop-piece
invariant-loop-piece l = l.asks.items ≡ map (ask_from_end l.commands) (take l.piece-index l.placed)
