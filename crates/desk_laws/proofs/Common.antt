-- The names that most proofs about a history use: commands, answers and their parts.
-- Each means one thing in all files. A name that fewer than three files use is named where it is used.

-- The other libraries below.
pub use Rattle.desk_types.proofs.{BothRules.accepted-by-two, BothRules.judged-by-two}
pub use Rattle.desk_types.proofs.{Exposure.exposure-untouched, Exposure.is_out-untouched, Minutes.count-one}
pub use Rattle.desk_types.proofs.{Minutes.count-split, ReelCommands.exposure_starts-quiet}
pub use Rattle.desk_types.proofs.{ReelCommands.IsQuiet-untouched}
pub use Rattle.desk_types.proofs.RowsCommon.{at, B1, base, K1, K2, L2, M, P, R1, R2, received, S1}
pub use Rattle.desk_types.specs.{declared.answer.Detail.TheVariants.Reels}
pub use Rattle.desk_types.specs.{declared.answer.Detail.TheVariants.Taken, declared.answer.Refusal.Refusal}
pub use Rattle.desk_types.specs.{declared.answer.Reply.TheVariants.Accepted}
pub use Rattle.desk_types.specs.{declared.answer.Reply.TheVariants.Refused, declared.command.Command.Command}
pub use Rattle.desk_types.specs.{declared.command.Entry.Entry, declared.command.Receipt.Receipt}
pub use Rattle.desk_types.specs.{declared.command.Stamped.Stamped, declared.count.CountRow.CountRow}
pub use Rattle.desk_types.specs.{declared.limits.TheConstants.GREATEST_QUANTITY}
pub use Rattle.desk_types.specs.{declared.limits.TheConstants.MOST_ENTRIES}
pub use Rattle.desk_types.specs.{declared.placement.Placement.Placement, declared.row.BoardRow.BoardRow}
pub use Rattle.desk_types.specs.{declared.row.ReelRow.ReelRow, declared.rules.Rules.Rules}
pub use Rattle.desk_types.specs.{declared.rules.Rules.TheVariants.Two, declared.sheet.SheetRow.SheetRow}
pub use Rattle.desk_types.specs.{declared.take.Pick.Pick, declared.take.Purpose.Purpose}
pub use Rattle.desk_types.specs.{declared.take.Purpose.TheVariants.Counted}
pub use Rattle.desk_types.specs.{declared.take.Purpose.TheVariants.Placed}
pub use Rattle.desk_types.specs.{declared.take.Purpose.TheVariants.Rejected, declared.take.Take.Take}
pub use Rattle.desk_types.specs.{declared.trace_detail.TraceDetail.TheVariants.Three, declared.view.Left.Left}
pub use Rattle.desk_types.specs.{declared.view.Left.TheVariants.Minutes}
pub use Rattle.desk_types.specs.{declared.view.Left.TheVariants.Unbaked}
pub use Rattle.desk_types.specs.{declared.view.Left.TheVariants.Unlimited, declared.view.ReelView.ReelView}
pub use Rattle.desk_types.specs.{declared.wire.Wire.Wire}
pub use Rattle.desk_types.specs.declared.answer.Refusal.TheVariants.{CountAbove, Expired, MachineBusy}
pub use Rattle.desk_types.specs.declared.answer.Refusal.TheVariants.{NoProduct, NotBaked, NotInWork}
pub use Rattle.desk_types.specs.declared.answer.Refusal.TheVariants.{ReelExists, ReelMounted, ReelShort}
pub use Rattle.desk_types.specs.declared.answer.Refusal.TheVariants.{ReelTwice, SlotEmpty, TooFarAhead}
pub use Rattle.desk_types.specs.declared.answer.Refusal.TheVariants.{UnknownReel, WrongPart}
pub use Rattle.desk_types.specs.declared.command.Command.TheVariants.{AlternateAllowed, ClockSet, CountsTaken}
pub use Rattle.desk_types.specs.declared.command.Command.TheVariants.{MaterialsInstalled, MaterialsLoaded}
pub use Rattle.desk_types.specs.declared.command.Command.TheVariants.{MaterialsScrapped, MaterialsSpliced}
pub use Rattle.desk_types.specs.declared.command.Command.TheVariants.{MaterialsUnloaded, PartDefined}
pub use Rattle.desk_types.specs.declared.command.Command.TheVariants.{ProductSelected, ReelBaked, ReelOpened}
pub use Rattle.desk_types.specs.declared.command.Command.TheVariants.{ReelReceived, ReelSealed, SheetDefined}
pub use Rattle.desk_types.specs.declared.command.Command.TheVariants.{WorkCompleted, WorkStarted}
-- What `desk_laws` defines and proves.
pub use Rattle.desk_laws.specs.{Alike.AreAlike, Alike.IsIdle, Alike.IsSameReel, Past.is_started}
pub use Rattle.desk_laws.specs.{Place.mounted_after, Place.place_after, Verified.IsRightlyPlaced}
pub use Rattle.desk_laws.specs.Chain.{boards_over, Carries, DeskFile, IsChain, lots_over, placed_over}
pub use Rattle.desk_laws.specs.Chain.{quantity_of, received_over, scrapped_over}
unfoldable pub use Rattle.desk_laws.specs.Place.{place_of}
