-- The profile: for each message, its body's members with their forms, in reading order. All are
-- required, and any other member is skipped. The first bad member decides.
use Rattle.std.specs.Prelude.{Result, Ok}
use Rattle.serde_json.specs.Data.{Data}
use Rattle.desk_types.specs.declared.command.Command.{Command}
use Rattle.desk_types.specs.declared.command.Command.TheVariants as command
use Rattle.desk_types.specs.declared.count.CountRow.{CountRow}
use Rattle.desk_types.specs.declared.sheet.SheetRow.{SheetRow}
use Rattle.cfx_profile.specs.declared.fault.MessageFault.{MessageFault}
use Rattle.cfx_profile.specs.declared.member.Member.TheVariants.{PartNumber, Alternate, Product, Machine, Rows, Slot, Designators, Reel, Lot, Level, Quantity, LabelMinutes, Board, Counts}
use Rattle.desk_types.specs.declared.stored_word.Word.{Word}
use Rattle.desk_types.specs.declared.stored_word.Word.TheVariants as word
use Rattle.cfx_profile.specs.Fault.{◌>>=◌}
use Rattle.cfx_profile.specs.Forms.{id_in, designator_in, quantity_in, counted_in, level_in, label_in}
use Rattle.cfx_profile.specs.Lists.{list_in, row_in}

-- A sheet's row.
unfoldable pub sheet_row_in : Data → Result SheetRow MessageFault
sheet_row_in item = do
  row ← row_in Rows item
  slot ← id_in Slot row
  part ← id_in PartNumber row
  designators ← list_in designator_in Designators row
  Ok (record { slot = slot; part = part; designators = designators })

-- A count's row.
unfoldable pub count_row_in : Data → Result CountRow MessageFault
count_row_in item = do
  row ← row_in Counts item
  reel ← id_in Reel row
  quantity ← counted_in Quantity row
  Ok (record { reel = reel; quantity = quantity })

-- The command in a message's body, or its first fault.
unfoldable pub command_in : Word → Data → Result Command MessageFault
command_in word.PartDefined body = do
  part ← id_in PartNumber body
  Ok (command.PartDefined part)
command_in word.AlternateAllowed body = do
  part ← id_in PartNumber body
  alternate ← id_in Alternate body
  Ok (command.AlternateAllowed part alternate)
command_in word.SheetDefined body = do
  product ← id_in Product body
  machine ← id_in Machine body
  rows ← list_in sheet_row_in Rows body
  Ok (command.SheetDefined product machine rows)
command_in word.ProductSelected body = do
  machine ← id_in Machine body
  product ← id_in Product body
  Ok (command.ProductSelected machine product)
-- LabelMinutes is only read at level 6.
command_in word.ReelReceived body = do
  reel ← id_in Reel body
  part ← id_in PartNumber body
  lot ← id_in Lot body
  level ← level_in Level body
  quantity ← quantity_in Quantity body
  label ← label_in level LabelMinutes body
  Ok (command.ReelReceived reel part lot (record { level = level; label = label }) quantity)
command_in word.ReelOpened body = do
  reel ← id_in Reel body
  Ok (command.ReelOpened reel)
command_in word.ReelSealed body = do
  reel ← id_in Reel body
  Ok (command.ReelSealed reel)
command_in word.ReelBaked body = do
  reel ← id_in Reel body
  Ok (command.ReelBaked reel)
command_in word.MaterialsLoaded body = do
  machine ← id_in Machine body
  slot ← id_in Slot body
  reel ← id_in Reel body
  Ok (command.MaterialsLoaded machine slot reel)
command_in word.MaterialsSpliced body = do
  machine ← id_in Machine body
  slot ← id_in Slot body
  reel ← id_in Reel body
  Ok (command.MaterialsSpliced machine slot reel)
command_in word.MaterialsUnloaded body = do
  machine ← id_in Machine body
  slot ← id_in Slot body
  Ok (command.MaterialsUnloaded machine slot)
command_in word.WorkStarted body = do
  machine ← id_in Machine body
  board ← id_in Board body
  Ok (command.WorkStarted machine board)
command_in word.WorkCompleted body = do
  machine ← id_in Machine body
  board ← id_in Board body
  Ok (command.WorkCompleted machine board)
command_in word.MaterialsInstalled body = do
  machine ← id_in Machine body
  board ← id_in Board body
  designators ← list_in designator_in Designators body
  Ok (command.MaterialsInstalled machine board designators)
command_in word.MaterialsScrapped body = do
  machine ← id_in Machine body
  slot ← id_in Slot body
  quantity ← quantity_in Quantity body
  Ok (command.MaterialsScrapped machine slot quantity)
command_in word.CountsTaken body = do
  counts ← list_in count_row_in Counts body
  Ok (command.CountsTaken counts)
-- A clock's message has no members.
command_in word.ClockSet body = Ok command.ClockSet
