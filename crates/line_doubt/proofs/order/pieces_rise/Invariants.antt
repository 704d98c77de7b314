use Rattle.desk_types.proofs.Common.{◌≡◌, drop}
use Rattle.desk_types.specs.declared.placement.Placement.{Placement}
use Rattle.line_doubt.specs.Order.{pieces_rise, rises}
use Rattle.line_doubt.proofs.order.pieces_rise.Given as goal

-- The pieces so far rise, so the others decide.
abbrev pub invariant-loop-piece : goal.invariant-loop-piece
invariant-loop-piece l =
    pieces_rise l.commands l.placed ≡ rises (λ (p : Placement). p.number) l.last l.commands
    (drop l.piece-index l.placed)
