use Rattle.desk_types.proofs.Common.{◌≡◌, Name}
use Rattle.state_rows.specs.Lists.{kept_at}
use Rattle.state_rows.proofs.noting.room_for_pieces.Given as goal

abbrev pub invariant-loop-i : goal.invariant-loop-i
invariant-loop-i l = (n : Name) → kept_at l.lots n ≡ kept_at l.fn.lots n
