use Rattle.desk_types.proofs.Common.{◌++◌, ◌≡◌, drop, List, Name, not}
use Rattle.desk_laws.proofs.Common.{ReelView}
use Rattle.setup_sheets.specs.Names.{HasSeen, is_among}
use Rattle.std.specs.List.{filter}
use Rattle.trace_reports.specs.Kit.{enough}
use Rattle.trace_reports.proofs.kit.enough.Given as goal

-- The chosen reels, with enough of the rest, are the result.
abbrev pub invariant-loop-reel : goal.invariant-loop-reel
invariant-loop-reel l = (names : List Name) → HasSeen l.given names
    → l.chosen.items ++ enough l.missing (filter (λ (r : ReelView). not (is_among names r.reel)) (drop l.reel-index l.reels))
    ≡ enough l.needed (filter (λ (r : ReelView). not (is_among names r.reel)) l.reels)
