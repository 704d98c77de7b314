-- The ranges of the values in commands and entries.
use Rattle.std.specs.Prelude.{⊤, List, length, All}
use Rattle.desk_types.specs.declared.command.Command.{Command}
use Rattle.desk_types.specs.declared.command.Command.TheVariants.{PartDefined, AlternateAllowed, SheetDefined, ProductSelected, ReelReceived, ReelOpened, ReelSealed, ReelBaked, MaterialsLoaded, MaterialsSpliced, MaterialsUnloaded, WorkStarted, WorkCompleted, MaterialsInstalled, MaterialsScrapped, CountsTaken, ClockSet}
use Rattle.desk_types.specs.declared.command.Entry.{Entry}
use Rattle.desk_types.specs.declared.command.Stamped.{Stamped}
use Rattle.desk_types.specs.declared.count.CountRow.{CountRow}
use Rattle.desk_types.specs.declared.sheet.SheetRow.{SheetRow}
use Rattle.desk_types.specs.Bounds.{IsListLength}
use Rattle.desk_types.specs.Designator.{IsDesignator}
use Rattle.desk_types.specs.Id.{IsId}
use Rattle.desk_types.specs.Level.{IsLabel}
use Rattle.desk_types.specs.Number.{IsMinute, IsQuantity, IsCountedQuantity}

-- 1 to 5,000 elements, each within its range.
pub record IsListOf {X : Type 0} (IsElement : X → Type 0) (xs : List X) : Type 0 where
  pub count : IsListLength (length xs)
  pub each : All IsElement xs

pub record IsSheetRow (row : SheetRow) : Type 0 where
  pub slot : IsId row.slot
  pub part : IsId row.part
  pub designators : IsListOf IsDesignator row.designators

pub record IsCountRow (row : CountRow) : Type 0 where
  pub reel : IsId row.reel
  pub quantity : IsCountedQuantity row.quantity

-- The command's names, numbers and lists are within their ranges.
abbrev pub IsCommand : Command → Type 0
IsCommand (PartDefined part) = IsId part
IsCommand (AlternateAllowed part alternate) = IsId part × IsId alternate
IsCommand (SheetDefined product machine rows) = IsId product × IsId machine
    × IsListOf IsSheetRow rows
IsCommand (ProductSelected machine product) = IsId machine × IsId product
IsCommand (ReelReceived reel part lot moisture quantity) =
    IsId reel × IsId part × IsId lot × IsLabel moisture.level moisture.label × IsQuantity quantity
IsCommand (ReelOpened reel) = IsId reel
IsCommand (ReelSealed reel) = IsId reel
IsCommand (ReelBaked reel) = IsId reel
IsCommand (MaterialsLoaded machine slot reel) = IsId machine × IsId slot × IsId reel
IsCommand (MaterialsSpliced machine slot reel) = IsId machine × IsId slot × IsId reel
IsCommand (MaterialsUnloaded machine slot) = IsId machine × IsId slot
IsCommand (WorkStarted machine board) = IsId machine × IsId board
IsCommand (WorkCompleted machine board) = IsId machine × IsId board
IsCommand (MaterialsInstalled machine board designators) = IsId machine × IsId board
    × IsListOf IsDesignator designators
IsCommand (MaterialsScrapped machine slot quantity) = IsId machine × IsId slot × IsQuantity quantity
IsCommand (CountsTaken counts) = IsListOf IsCountRow counts
IsCommand ClockSet = ⊤

pub record IsStamped (s : Stamped) : Type 0 where
  pub uid : IsId s.uid
  pub source : IsId s.source
  pub minute : IsMinute s.minute
  pub command : IsCommand s.command

pub record IsEntry (e : Entry) : Type 0 where
  pub stamped : IsStamped e.stamped
  pub effective : IsMinute e.effective
