-- Parts and alternates, product sheets, selections and receipts.
use Rattle.std.specs.Prelude.{ℕ, Bool, false, ◌||◌, ◌&&◌, Option, Some, None, List, if◌then◌else◌}
use Rattle.std.specs.Option.{option_and_then, option_map}
use Rattle.std.specs.List.{list_any, find}
use Rattle.desk_types.specs.declared.command.Command.{Command}
use Rattle.desk_types.specs.declared.command.Command.TheVariants.{PartDefined, AlternateAllowed, SheetDefined, ProductSelected, ReelReceived}
use Rattle.desk_types.specs.declared.command.Receipt.{Receipt}
use Rattle.desk_types.specs.declared.sheet.SheetRow.{SheetRow}
use Rattle.desk_types.specs.Id.{Name, same}
use Rattle.desk_types.specs.History.{History, latest}

-- ---- parts and alternates

-- Whether the command defines the part.
abbrev pub defines : Name → Command → Bool
defines part (PartDefined p) = same p part
defines part _ = false

-- Whether the part was defined.
abbrev pub is_part : History → Name → Bool
is_part H part = list_any (λ e. defines part e.stamped.command) H

-- Whether the command names q as an alternate of p.
abbrev pub allows : Name → Name → Command → Bool
allows p q (AlternateAllowed part alternate) = same part p && same alternate q
allows p q _ = false

-- Whether q was named as an alternate of p.
abbrev pub is_alternate : History → Name → Name → Bool
is_alternate H p q = list_any (λ e. allows p q e.stamped.command) H

-- Whether part q may replace p: it is p or its named alternate (not in reverse, nor through a third
-- part).
abbrev pub is_allowed : History → Name → Name → Bool
is_allowed H p q = same q p || is_alternate H p q

-- ---- sheets and selections

-- The sheet's rows, if the command defines them.
abbrev pub sheet_by : Name → Name → Command → Option (List SheetRow)
sheet_by product machine (SheetDefined p m rows) = if same p product && same m machine
    then Some rows else None
sheet_by product machine _ = None

-- The rows of the product's last sheet on the machine.
abbrev pub sheet_of : History → Name → Name → Option (List SheetRow)
sheet_of H product machine = latest (λ e. sheet_by product machine e.stamped.command) H

-- The product that the command selects on the machine.
abbrev pub selection_by : Name → Command → Option Name
selection_by machine (ProductSelected m product) = if same m machine then Some product else None
selection_by machine _ = None

-- The product last selected on the machine.
abbrev pub selected_on : History → Name → Option Name
selected_on H machine = latest (λ e. selection_by machine e.stamped.command) H

-- The selected product's sheet on the machine.
abbrev pub sheet_on : History → Name → Option (List SheetRow)
sheet_on H machine = option_and_then (λ product. sheet_of H product machine) (selected_on H machine)

-- ---- rows of a sheet

-- The first row for the slot.
abbrev pub row_in : List SheetRow → Name → Option SheetRow
row_in rows slot = find (λ row. same row.slot slot) rows

-- The slot of the first row with the designator.
abbrev pub slot_in : List SheetRow → Name → Option Name
slot_in rows designator = option_map
    (λ (row : SheetRow). row.slot) (find (λ row. list_any (same designator) row.designators) rows)

-- The slot's row in the selected product's sheet.
abbrev pub row_on : History → Name → Name → Option SheetRow
row_on H machine slot = option_and_then (λ rows. row_in rows slot) (sheet_on H machine)

-- The designator's slot in the selected product's sheet.
abbrev pub slot_on : History → Name → Name → Option Name
slot_on H machine designator =
    option_and_then (λ rows. slot_in rows designator) (sheet_on H machine)

-- ---- receipts

-- The reel's receipt, if the command is its receipt at the minute.
abbrev pub receipt_by : Name → ℕ → Command → Option Receipt
receipt_by reel minute (ReelReceived r part lot moisture quantity) =
    if same r reel then Some (record {
      part = part;
      lot = lot;
      moisture = moisture;
      quantity = quantity;
      effective = minute;
    }) else None
receipt_by reel minute _ = None

-- The reel's last receipt.
abbrev pub receipt_of : History → Name → Option Receipt
receipt_of H reel = latest (λ e. receipt_by reel e.effective e.stamped.command) H
