use Rattle.desk_types.proofs.Common.{◌++◌, ◌≡◌, History, List, map, Name, Some}
use Rattle.feeder_state.{proofs.FreeReels.free_in, specs.Rows.AreRowsAt}
use Rattle.judging.specs.Turns.{turn_of}
use Rattle.setup_sheets.specs.Alternates.{AreAlternates}
use Rattle.feeder_state.proofs.free.put_turns.Given as goal

-- The names so far, and the turns of the free reels among them and those before.
abbrev pub invariant-loop-name : goal.invariant-loop-name
invariant-loop-name l = (seen : List Name) × (seen ++ l.name-iterator ≡ l.reels.keys)
    × ((H : History) (names : List Name) → AreRowsAt H (Some l.minute) l.rows → AreAlternates H l.alternates
    → l.initial.turns.keys ≡ map (turn_of H) (free_in H l.part names) → l.turns.keys ≡ map (turn_of H) (free_in H l.part (names ++ seen)))
