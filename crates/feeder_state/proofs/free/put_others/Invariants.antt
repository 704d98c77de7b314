use Rattle.desk_types.proofs.Common.{◌++◌, ◌≡◌, flat_map, History, List, map, Name, Some}
use Rattle.feeder_state.{proofs.FreeReels.free_in, specs.Rows.AreRowsAt, specs.Sets.names_at}
use Rattle.judging.specs.Turns.{turn_of}
use Rattle.setup_sheets.specs.Alternates.{AreAlternates}
use Rattle.feeder_state.proofs.free.put_others.Given as goal

-- The parts so far, and the turns of the free reels of those and before.
abbrev pub invariant-loop-other : goal.invariant-loop-other
invariant-loop-other l = (seen : List Name) × (seen ++ l.other-iterator ≡ l.others.keys)
    × ((H : History) (names : List Name) → AreRowsAt H (Some l.minute) l.rows → AreAlternates H l.alternates
    → l.initial.turns.keys ≡ map (turn_of H) (free_in H l.part names)
    → l.turns.keys ≡ map (turn_of H) (free_in H l.part (names ++ flat_map (names_at l.floor.resting) seen)))
