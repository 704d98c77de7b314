-- An entry that a desk takes in.
use Rattle.std.specs.Prelude.{◌≡◌, ℕ, Bool, true, false, List, ◌∷◌}
use Rattle.desk_types.specs.declared.command.Command.{Command}
use Rattle.desk_types.specs.declared.command.Command.TheVariants.{MaterialsInstalled, MaterialsScrapped, CountsTaken}
use Rattle.desk_types.specs.declared.command.Entry.{Entry}
use Rattle.desk_types.specs.declared.rules.Rules.TheVariants.{Two}
use Rattle.desk_types.specs.declared.take.Take.{Take}
use Rattle.desk_types.specs.History.{History}
use Rattle.desk_types.specs.Judged.{IsJudged}
use Rattle.desk_types.specs.Outcome.{takes_by}

-- The entry may come after H, and is of this command, which took effect at the minute and took these pieces.
pub record IsNoted (H : History) (e : Entry) (command : Command) (at : ℕ)
    (takes : List Take) : Type 0 where
  pub judged : IsJudged Two (e ∷ H)
  pub command_is : e.stamped.command ≡ command
  pub effective : e.effective ≡ at
  pub takes_are : takes ≡ takes_by H at command

-- Whether the command may take pieces.
abbrev pub may_take : Command → Bool
may_take (MaterialsInstalled machine board designators) = true
may_take (MaterialsScrapped machine slot quantity) = true
may_take (CountsTaken counts) = true
may_take _ = false
