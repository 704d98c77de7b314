-- What a difference says of the histories of two desks.
use Rattle.std.specs.Prelude.{◌≡◌, ◌≢◌, ◌<◌, true, false, is_some, Option, Some, None}
use Rattle.std.specs.Option.{option_map}
use Rattle.desk_types.specs.declared.command.Receipt.{Receipt}
use Rattle.desk_types.specs.declared.view.ReelView.{ReelView}
use Rattle.desk_types.specs.Id.{Name}
use Rattle.desk_types.specs.History.{History, desk_minute}
use Rattle.desk_types.specs.Setup.{is_part, is_alternate, sheet_of, selected_on, receipt_of}
use Rattle.desk_types.specs.Pieces.{left_of, live_on}
use Rattle.desk_types.specs.FloorLife.{out_since}
use Rattle.desk_types.specs.Work.{is_in_work}
use Rattle.desk_types.specs.View.{part_of, lot_of, life_left, reel_view}
use Rattle.desk_laws.specs.Past.{is_started}
use Rattle.desk_laws.specs.Alike.{AreAlike}
use Rattle.desk_laws.specs.Chain.{Carries, quantity_of}
use Rattle.chain_check.specs.Views.{quantity_in}
use Rattle.chain_check.specs.declared.difference.Difference.{Difference}
use Rattle.chain_check.specs.declared.difference.Difference.TheVariants.{Minute, Part, Alternate, Sheet, Selection, OldWork, NewWork, Board, Reel, Remaining, Received, ReelPart, Lot, Level, Open, Life, Slot}

-- The value is one on the old desk and another on the new one.
pub record Changes {X : Type 0} (of_old of_new old new : X) : Type 0 where
  pub old_is : of_old ≡ old
  pub new_is : of_new ≡ new
  pub differ : old ≢ new

-- The difference is one of the two histories.
abbrev pub IsDifference : History → History → Difference → Type 0
IsDifference H H' (Minute old new) = Changes (desk_minute H) (desk_minute H') old new
IsDifference H H' (Part part) = is_part H part ≢ is_part H' part
IsDifference H H' (Alternate part alternate) = is_alternate H part alternate
    ≢ is_alternate H' part alternate
IsDifference H H' (Sheet product machine) = sheet_of H product machine ≢ sheet_of H' product machine
IsDifference H H' (Selection machine) = selected_on H machine ≢ selected_on H' machine
IsDifference H H' (OldWork board) = is_in_work H board ≡ true
IsDifference H H' (NewWork board) = is_in_work H' board ≡ true
IsDifference H H' (Board board) = (is_started H' board ≡ true) × (is_started H board ≡ false)
IsDifference H H' (Reel reel) = (is_some (receipt_of H' reel) ≡ true)
    × (is_some (receipt_of H reel) ≡ false)
IsDifference H H' (Remaining reel old new) = Changes (left_of H reel) (left_of H' reel) old new
IsDifference H H' (Received reel old new) = (is_some (receipt_of H' reel) ≡ true)
    × Changes (left_of H reel) (quantity_of H' reel) old new
IsDifference H H' (ReelPart reel old new) = (0 < left_of H reel)
    × Changes (part_of H reel) (part_of H' reel) old new
IsDifference H H' (Lot reel old new) = (0 < left_of H reel)
    × Changes (lot_of H reel) (lot_of H' reel) old new
IsDifference H H' (Level reel) =
    (0 < left_of H reel) × (option_map (λ (r : Receipt). r.moisture) (receipt_of H reel)
    ≢ option_map (λ (r : Receipt). r.moisture) (receipt_of H' reel))
IsDifference H H' (Open reel old new) = (0 < left_of H reel)
    × Changes (is_some (out_since H reel)) (is_some (out_since H' reel)) old new
IsDifference H H' (Life reel old new) = (0 < left_of H reel)
    × Changes (life_left H reel) (life_left H' reel) old new
IsDifference H H' (Slot machine slot) = live_on H machine slot ≢ live_on H' machine slot

-- The difference shows that the new desk doesn't carry on the old one: they aren't alike, unless it is one of received pieces.
abbrev pub Refutes : History → History → Difference → Type 0
Refutes H H' (Received reel old new) = Carries H H' → ⊥
Refutes H H' _ = AreAlike H H' → ⊥

-- The difference is one of two views of the reel.
abbrev pub IsViewDifference : Name → ReelView → ReelView → Difference → Type 0
IsViewDifference reel v w (Remaining r old new) = (r ≡ reel)
    × Changes v.remaining w.remaining old new
IsViewDifference reel v w (Received r old new) = (r ≡ reel)
    × Changes v.remaining (quantity_in w) old new
IsViewDifference reel v w (ReelPart r old new) = (r ≡ reel) × (0 < v.remaining)
    × Changes v.part w.part old new
IsViewDifference reel v w (Lot r old new) = (r ≡ reel) × (0 < v.remaining)
    × Changes v.lot w.lot old new
IsViewDifference reel v w (Level r) = (r ≡ reel) × (0 < v.remaining)
    × (v.level ≡ w.level → v.label ≡ w.label → ⊥)
IsViewDifference reel v w (Open r old new) = (r ≡ reel) × (0 < v.remaining)
    × Changes v.is_open w.is_open old new
IsViewDifference reel v w (Life r old new) = (r ≡ reel) × (0 < v.remaining)
    × Changes v.left w.left old new
IsViewDifference reel v w _ = ⊥

-- The same of views that a reel may not have.
abbrev pub AreViewsDifferent : Name → Option ReelView → Option ReelView → Difference → Type 0
AreViewsDifferent reel None None d = ⊥
AreViewsDifferent reel None (Some w) d = d ≡ Reel reel
AreViewsDifferent reel (Some v) None d = (0 < v.remaining) × (d ≡ Remaining reel v.remaining 0)
AreViewsDifferent reel (Some v) (Some w) d = IsViewDifference reel v w d

-- The difference is one of the views of some reel.
abbrev pub IsReelDifference : History → History → Difference → Type 0
IsReelDifference H H' d = (reel : Name)
    × AreViewsDifferent reel (reel_view H reel) (reel_view H' reel) d
