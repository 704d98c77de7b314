use Rattle.desk_types.proofs.Common.{◌||◌, ◌≡◌, History, is_alternate, Name}
use Rattle.feeder_state.{specs.Restored.AreRowsOf, specs.Sets.is_name_at}
use Rattle.setup_sheets.specs.Alternates.{is_pair_among}
use Rattle.feeder_state.proofs.setup.rows.alternates_of.Given as goal

-- The alternates that are in, or are left to be put in.
abbrev pub invariant-loop-pair : goal.invariant-loop-pair
invariant-loop-pair l = (H : History) → AreRowsOf H l.rows → (p q : Name) → (is_name_at l.alternates p q || is_pair_among l.pair-iterator p q) ≡ is_alternate H p q
