-- What decides about a front reel besides the desk.
use Rattle.std.specs.Prelude.{◌≡◌, ℕ, Option}
use Rattle.std.specs.Option.{option_map}
use Rattle.std.specs.BTreeMap as tree
use Rattle.desk_types.specs.declared.front.FrontReel.{FrontReel}
use Rattle.desk_types.specs.Id.{Name, by_name}
use Rattle.desk_types.specs.History.{History}
use Rattle.setup_sheets.specs.Alternates.{AreAlternates}
use Rattle.line_book.specs.declared.holds.Holds.{Holds}
use Rattle.line_book.specs.declared.note.Stock.{Stock}
use Rattle.line_book.specs.declared.note.Stock.TheVariants.{Reel, Lot}
use Rattle.line_book.specs.declared.setup.Setup.{Setup}
use Rattle.line_book.specs.Book.{Book}
use Rattle.line_book.specs.Holds.{hold_on}

-- The hold that the maps have of the reel or the lot.
abbrev pub hold_at : Holds → Stock → Option ℕ
hold_at holds (Reel reel) = tree.get by_name holds.reels reel
hold_at holds (Lot lot) = tree.get by_name holds.lots lot

-- The reel of a front.
abbrev pub reel_in : Option FrontReel → Option Name
reel_in front = option_map (λ (r : FrontReel). r.reel) front

-- The alternates are those of the history, and the holds those of the book.
pub record KeepsSetup (H : History) (B : Book) (setup : Setup) : Type 0 where
  pub alternates : AreAlternates H setup.alternates
  pub holds : (stock : Stock) → hold_at setup.holds stock ≡ hold_on B stock
