-- Boards that were started, and reels that are spent: a desk that is begun anew does not have them.
use Rattle.std.specs.Prelude.{◌≡◌, Bool, false, is_some, ◌&&◌, ◌==◌, List, [], ◌∷◌, map, All}
use Rattle.std.specs.List.{list_any}
use Rattle.desk_types.specs.declared.command.Command.{Command}
use Rattle.desk_types.specs.declared.command.Command.TheVariants.{ReelReceived, ReelOpened, ReelSealed, ReelBaked, MaterialsLoaded, MaterialsSpliced, WorkStarted, WorkCompleted, MaterialsInstalled, CountsTaken}
use Rattle.desk_types.specs.declared.command.Entry.{Entry}
use Rattle.desk_types.specs.declared.count.CountRow.{CountRow}
use Rattle.desk_types.specs.Id.{Name}
use Rattle.desk_types.specs.History.{History}
use Rattle.desk_types.specs.Setup.{receipt_of}
use Rattle.desk_types.specs.Pieces.{left_of}
use Rattle.desk_types.specs.Work.{start_by}

-- Whether work on the board was started, on any machine.
abbrev pub is_started : History → Name → Bool
is_started H board = list_any (λ (e : Entry). is_some (start_by board e.stamped.command)) H

-- Whether the reel was received and has no pieces left.
abbrev pub is_spent : History → Name → Bool
is_spent H reel = is_some (receipt_of H reel) && (left_of H reel == 0)

-- The boards that a command names.
abbrev pub boards_named : Command → List Name
boards_named (WorkStarted machine board) = board ∷ []
boards_named (WorkCompleted machine board) = board ∷ []
boards_named (MaterialsInstalled machine board designators) = board ∷ []
boards_named _ = []

-- The reels that a command names.
abbrev pub reels_named : Command → List Name
reels_named (ReelReceived reel part lot moisture quantity) = reel ∷ []
reels_named (ReelOpened reel) = reel ∷ []
reels_named (ReelSealed reel) = reel ∷ []
reels_named (ReelBaked reel) = reel ∷ []
reels_named (MaterialsLoaded machine slot reel) = reel ∷ []
reels_named (MaterialsSpliced machine slot reel) = reel ∷ []
reels_named (CountsTaken counts) = map (λ (row : CountRow). row.reel) counts
reels_named _ = []

-- The command names no board that was started in H, and no reel that is spent in H.
pub record NamesNothingPast (H : History) (command : Command) : Type 0 where
  pub boards : All (λ board. is_started H board ≡ false) (boards_named command)
  pub reels : All (λ reel. is_spent H reel ≡ false) (reels_named command)
