-- Runs of pieces from one reel at a slot, and pieces close to a change of reel.
use Rattle.std.specs.Prelude.{ℕ, ◌+◌, ◌-◌, nat_le, nat_lt, Bool, false, ◌&&◌, Option, Some, None, List, [], ◌∷◌, if◌then◌else◌}
use Rattle.std.specs.BTreeMap as tree
use Rattle.std.specs.BTreeMap.{BTreeMap}
use Rattle.desk_types.specs.declared.placement.Placement.{Placement}
use Rattle.desk_types.specs.Id.{Name, same}
use Rattle.desk_types.specs.Pair.{by_pair}
use Rattle.line_doubt.specs.declared.runs.Run.{Run}
use Rattle.line_doubt.specs.declared.runs.Spot.{Spot}

-- ---- pieces

-- A piece is of one tape with an earlier one if the slot's last load or unload before it isn't
-- behind the earlier one.
abbrev pub spot_of : Placement → (restarted : ℕ) → Spot
spot_of p restarted = record {
  machine = p.machine;
  slot = p.slot;
  reel = p.reel;
  own = restarted;
  kept = p.number;
}

-- The same from the end of the history.
abbrev pub spot_from_end : (commands : ℕ) → Placement → (restarted : ℕ) → Spot
spot_from_end commands p restarted = record {
  machine = p.machine;
  slot = p.slot;
  reel = p.reel;
  own = commands - p.number;
  kept = commands - restarted;
}

-- ---- runs

-- Whether there is a piece before the run, on the tape of a piece with this `own`.
abbrev pub reaches : ℕ → Option ℕ → Bool
reaches own None = false
reaches own (Some kept) = nat_le own kept

-- Whether one of the last t pieces of the slot is of the piece's tape and from another reel, by the
-- slot's last run.
abbrev pub is_close : ℕ → Option Run → Spot → Bool
is_close t None p = false
is_close t (Some run) p = if same run.reel p.reel
    then nat_lt run.count t && reaches p.own run.before
    else (nat_lt 0 t && nat_le p.own run.kept)

-- The slot's last run once the piece is there. More than t pieces needn't be counted.
abbrev pub longer : ℕ → Option Run → Spot → Run
longer t None p = record { reel = p.reel; count = 1; kept = p.kept; before = None }
longer t (Some run) p = if same run.reel p.reel
    then record {
      reel = run.reel;
      count = if nat_lt run.count t then run.count + 1 else run.count;
      kept = p.kept;
      before = run.before;
    }
    else record { reel = p.reel; count = 1; kept = p.kept; before = Some run.kept }

-- The last run of any slot once the piece is there.
abbrev pub run_after : ℕ → Name → Name → Spot → Option Run → Option Run
run_after t machine slot p run =
    if same p.machine machine && same p.slot slot then Some (longer t run p) else run

-- The slot's last run in the map.
abbrev pub run_in : BTreeMap (Name × Name) Run → Name → Name → Option Run
run_in runs machine slot = tree.get by_pair runs (machine, slot)

-- ---- lists

-- The slot's last run of the pieces, the last of them first.
abbrev pub run_of : ℕ → Name → Name → List Spot → Option Run
run_of t machine slot [] = None
run_of t machine slot (p ∷ ps) = run_after t machine slot p (run_of t machine slot ps)

-- Whether each of the pieces is close, after those before them, the last of these first.
abbrev pub close_flags : ℕ → List Spot → List Spot → List Bool
close_flags t before [] = []
close_flags t before (p ∷ ps) =
    is_close t (run_of t p.machine p.slot before) p ∷ close_flags t (p ∷ before) ps
