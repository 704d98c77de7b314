-- Counts of the answers sent.
use Rattle.std.specs.Prelude.{◌+◌, ◌^◌, ◌<◌, ◌≤◌}
use Rattle.desk_types.specs.declared.wire.Wire.{Wire}
use Rattle.desk_types.specs.Wire.{failures_of}
use Rattle.desk_answers.specs.declared.serving.Served.{Served}

-- Nothing was answered yet.
abbrev pub none_served : Served
none_served = record { answered = 0; refused = 0 }

-- One more answer can be counted, and at most all answers are refusals.
pub record CanCountOne (served : Served) : Type 0 where
  pub few_answers : served.answered < 2 ^ 63
  pub refused : served.refused ≤ served.answered

-- At most one more answer was counted.
pub record CountsUpToOne (old new : Served) : Type 0 where
  pub few_answers : new.answered ≤ old.answered + 1
  pub refused : new.refused ≤ new.answered

-- One more answer can be sent and counted, or its failure.
pub record CanCountAnswer {W : Type 0} (output : Wire W) (served : Served) : Type 0 where
  pub few_failures : failures_of output < 2 ^ 63
  pub few_answers : CanCountOne served
