-- Whether a machine may work.
use Rattle.std.specs.Prelude.{◌≡◌, ◌<◌, true, false, Some, None, List, All}
use Rattle.std.specs.List.{list_any}
use Rattle.desk_types.specs.declared.command.Receipt.{Receipt}
use Rattle.desk_types.specs.declared.sheet.SheetRow.{SheetRow}
use Rattle.desk_types.specs.Id.{Name}
use Rattle.desk_types.specs.History.{History, now_of}
use Rattle.desk_types.specs.Setup.{sheet_on, receipt_of, is_allowed}
use Rattle.desk_types.specs.Pieces.{front_of, left_of}
use Rattle.desk_types.specs.FloorLife.{is_unbaked, is_expired}
use Rattle.desk_types.specs.Work.{in_work_on}
use Rattle.line_book.specs.declared.note.Stock.TheVariants.{Reel, Lot}
use Rattle.line_book.specs.Book.{Book}
use Rattle.line_book.specs.Causes.{stops}
use Rattle.line_book.specs.Holds.{hold_on}

-- The row's slot is fed: its front is a received reel with pieces left, of a part that the row
-- allows; it doesn't wait for its bake, isn't expired at the desk minute, and neither it nor its lot
-- is held.
pub record IsFed (H : History) (B : Book) (machine : Name) (row : SheetRow) : Type 0 where
  pub reel : Name
  pub front : front_of H machine row.slot ≡ Some reel
  pub receipt : Receipt
  pub received : receipt_of H reel ≡ Some receipt
  pub part_allowed : is_allowed H row.part receipt.part ≡ true
  pub baked : is_unbaked H reel ≡ false
  pub not_expired : is_expired H reel (now_of H) ≡ false
  pub pieces : 0 < left_of H reel
  pub reel_free : hold_on B (Reel reel) ≡ None
  pub lot_free : hold_on B (Lot receipt.lot) ≡ None

-- The machine may work: a board is in work there, no open entry stops it, and each slot of the
-- selected sheet is fed.
pub record MayWork (H : History) (B : Book) (machine : Name) : Type 0 where
  pub board : Name
  pub in_work : in_work_on H machine ≡ Some board
  pub none_open : list_any (stops H B machine) B ≡ false
  pub rows : List SheetRow
  pub sheet : sheet_on H machine ≡ Some rows
  pub slots : All (IsFed H B machine) rows
