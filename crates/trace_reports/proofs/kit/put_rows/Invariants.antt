use Rattle.desk_types.proofs.Common.{◌++◌, ◌-◌, ◌≡◌, List, map, Name, take}
use Rattle.desk_laws.proofs.Common.{ReelView}
use Rattle.setup_sheets.specs.Names.{HasSeen}
use Rattle.trace_reports.specs.Kit.{pieces_of_reels, reel_row}
use Rattle.trace_reports.proofs.kit.put_rows.Given as goal

-- The reels so far are given and have rows, and their pieces are no longer missing.
abbrev pub invariant-loop-reel : goal.invariant-loop-reel
invariant-loop-reel l = record {
  given : (names : List Name) → HasSeen l.fn.given names → HasSeen l.given (names ++ map (λ (r : ReelView). r.reel) (take l.reel-index l.reels));
  rows : l.kit.items ≡ l.fn.kit.items ++ map (reel_row l.row l.needed) (take l.reel-index l.reels);
  missing : l.missing ≡ l.needed - pieces_of_reels (take l.reel-index l.reels);
}
