-- Why a machine may not work.
use Rattle.std.specs.Prelude.{ℕ, Bool, false, ◌&&◌, Option, Some, None, List, [], ◌∷◌, ◌++◌, map, filter, is_some}
use Rattle.std.specs.Option.{option_and_then, option_map, option_to_list}
use Rattle.std.specs.List.{flat_map}
use Rattle.desk_types.specs.declared.command.Receipt.{Receipt}
use Rattle.desk_types.specs.declared.sheet.SheetRow.{SheetRow}
use Rattle.desk_types.specs.Id.{Name, same}
use Rattle.desk_types.specs.History.{History, now_of}
use Rattle.desk_types.specs.Setup.{sheet_on, row_in, receipt_of}
use Rattle.desk_types.specs.Pieces.{front_of}
use Rattle.desk_types.specs.Refusals.{front_refusal}
use Rattle.desk_types.specs.Work.{in_work_on}
use Rattle.line_book.specs.declared.cause.Cause.{Cause}
use Rattle.line_book.specs.declared.cause.Cause.TheVariants.{NoWork, Open, NoSheet, AtSlot, Held}
use Rattle.line_book.specs.declared.note.Matter.{Matter}
use Rattle.line_book.specs.declared.note.Matter.TheVariants.{Handling, Stray, Work, Differs}
use Rattle.line_book.specs.declared.note.Note.{Note}
use Rattle.line_book.specs.declared.note.Stock.TheVariants.{Reel, Lot}
use Rattle.line_book.specs.Book.{Book, is_open}
use Rattle.line_book.specs.Holds.{hold_on}

-- ---- the book

-- Whether the sheet has the slot.
abbrev pub is_on : Option (List SheetRow) → Name → Bool
is_on sheet slot = is_some (option_and_then (λ rows. row_in rows slot) sheet)

-- Whether the entry speaks of the machine while it has this sheet. One about a slot that the sheet
-- doesn't have is silent until a sheet has the slot again.
abbrev pub concerns : Option (List SheetRow) → Name → Matter → Bool
concerns sheet machine (Handling m slot reel word) = same m machine && is_on sheet slot
concerns sheet machine (Stray m slot reel word) = same m machine
concerns sheet machine (Work m slot board word) = same m machine
concerns sheet machine (Differs m slot board reel desk_reel) = same m machine && is_on sheet slot
concerns sheet machine _ = false

-- Whether the entry is open and stops the machine.
abbrev pub stops : History → Book → Name → Note → Bool
stops H B machine n = is_open H B n && concerns (sheet_on H machine) machine n.matter

-- ---- a slot

-- The hold of the reel's lot, which its receipt names.
abbrev pub lot_hold : History → Book → Name → Option ℕ
lot_hold H B reel =
    option_and_then (λ (r : Receipt). hold_on B (Lot r.lot)) (receipt_of H reel)

-- The holds of the front reel and of its lot, in this order.
abbrev pub held_causes : History → Book → Name → Option Name → List Cause
held_causes H B slot None = []
held_causes H B slot (Some reel) =
    option_to_list (option_map (Held slot reel) (hold_on B (Reel reel)))
    ++ option_to_list (option_map (Held slot reel) (lot_hold H B reel))

-- What is wrong with the row's slot if this reel is its front: what a start of work at the desk
-- minute would refuse, and then each hold.
abbrev pub front_causes : History → Book → SheetRow → Option Name → List Cause
front_causes H B row front =
    option_to_list (option_map (AtSlot row.slot front) (front_refusal H (now_of H) row front))
    ++ held_causes H B row.slot front

-- What is wrong with the row's slot.
abbrev pub slot_causes : History → Book → Name → SheetRow → List Cause
slot_causes H B machine row = front_causes H B row (front_of H machine row.slot)

-- ---- a machine

-- No board in work is a cause.
abbrev pub work_causes : Option Name → List Cause
work_causes None = NoWork ∷ []
work_causes (Some board) = []

-- No sheet is a cause; else those of its slots, in sheet order.
abbrev pub setup_causes : History → Book → Name → Option (List SheetRow) → List Cause
setup_causes H B machine None = NoSheet ∷ []
setup_causes H B machine (Some rows) = flat_map (slot_causes H B machine) rows

-- All causes why the machine may not work: no board in work, then the open entries in their order,
-- then the setup.
abbrev pub causes : History → Book → Name → List Cause
causes H B machine = work_causes (in_work_on H machine)
    ++ map Open (filter (stops H B machine) B)
    ++ setup_causes H B machine (sheet_on H machine)
