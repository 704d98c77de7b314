-- The members that are read, by key.
use Rattle.std.specs.Prelude.{ℕ, List, codes}
use Rattle.cfx_profile.specs.declared.member.Member.{Member}
use Rattle.cfx_profile.specs.declared.member.Member.TheVariants.{MessageName, UniqueId, Source, TimeStamp, MessageBody, PartNumber, Alternate, Product, Machine, Rows, Slot, Designators, Reel, Lot, Level, Quantity, LabelMinutes, Board, Counts}

abbrev pub member_text : Member → List ℕ
member_text MessageName = codes "MessageName"
member_text UniqueId = codes "UniqueID"
member_text Source = codes "Source"
member_text TimeStamp = codes "TimeStamp"
member_text MessageBody = codes "MessageBody"
member_text PartNumber = codes "PartNumber"
member_text Alternate = codes "Alternate"
member_text Product = codes "Product"
member_text Machine = codes "Machine"
member_text Rows = codes "Rows"
member_text Slot = codes "Slot"
member_text Designators = codes "Designators"
member_text Reel = codes "Reel"
member_text Lot = codes "Lot"
member_text Level = codes "Level"
member_text Quantity = codes "Quantity"
member_text LabelMinutes = codes "LabelMinutes"
member_text Board = codes "Board"
member_text Counts = codes "Counts"
