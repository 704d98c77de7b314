use Rattle.desk_types.proofs.Common.{◌≡◌, map, take}
use Rattle.line_doubt.specs.Late.{own_minute}
use Rattle.line_doubt.proofs.minutes.own_minutes.Given as goal

-- The minutes of the pieces so far.
abbrev pub invariant-loop-piece : goal.invariant-loop-piece
invariant-loop-piece l = l.own.items ≡ map (own_minute l.minutes) (take l.piece-index l.placed)
