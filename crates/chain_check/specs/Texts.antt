-- The text of a difference.
use Rattle.std.specs.Prelude.{ℕ, List, ◌++◌, Bool, true, false, Option, Some, None, codes, decimal}
use Rattle.desk_types.specs.Id.{Name}
use Rattle.desk_types.specs.declared.view.Left.{Left}
use Rattle.desk_types.specs.declared.view.Left.TheVariants.{Minutes, Unlimited, Unbaked}
use Rattle.chain_check.specs.declared.difference.Difference.{Difference}
use Rattle.chain_check.specs.declared.difference.Difference.TheVariants.{Minute, Part, Alternate, Sheet, Selection, OldWork, NewWork, Board, Reel, Remaining, Received, ReelPart, Lot, Level, Open, Life, Slot}

abbrev pub minute_text : Option ℕ → List ℕ
minute_text (Some minute) = decimal minute
minute_text None = codes "none"

abbrev pub life_text : Left → List ℕ
life_text (Minutes minutes) = decimal minutes
life_text Unlimited = codes "unlimited"
life_text Unbaked = codes "unbaked"

abbrev pub truth_text : Bool → List ℕ
truth_text true = codes "true"
truth_text false = codes "false"

-- Two texts with a space between them.
abbrev pub both : List ℕ → List ℕ → List ℕ
both a b = a ++ codes " " ++ b

abbrev pub remaining_text : Name → ℕ → ℕ → List ℕ
remaining_text reel old new =
    codes "reel " ++ reel ++ codes " remaining " ++ both (decimal old) (decimal new)

-- The kind of a difference, the names that it is in, and then the values on the old desk and on the new one.
abbrev pub difference_text : Difference → List ℕ
difference_text (Minute old new) = codes "minute " ++ both (minute_text old) (minute_text new)
difference_text (Part part) = codes "part " ++ part
difference_text (Alternate part alternate) = codes "alternate " ++ both part alternate
difference_text (Sheet product machine) = codes "sheet " ++ both product machine
difference_text (Selection machine) = codes "selection " ++ machine
difference_text (OldWork board) = codes "board " ++ board ++ codes " in work old"
difference_text (NewWork board) = codes "board " ++ board ++ codes " in work new"
difference_text (Board board) = codes "board " ++ board ++ codes " new"
difference_text (Reel reel) = codes "reel " ++ reel ++ codes " new"
difference_text (Remaining reel old new) = remaining_text reel old new
difference_text (Received reel old new) =
    codes "reel " ++ reel ++ codes " received " ++ both (decimal old) (decimal new)
difference_text (ReelPart reel old new) = codes "reel " ++ reel ++ codes " part " ++ both old new
difference_text (Lot reel old new) = codes "reel " ++ reel ++ codes " lot " ++ both old new
difference_text (Level reel) = codes "reel " ++ reel ++ codes " level"
difference_text (Open reel old new) =
    codes "reel " ++ reel ++ codes " open " ++ both (truth_text old) (truth_text new)
difference_text (Life reel old new) =
    codes "reel " ++ reel ++ codes " life " ++ both (life_text old) (life_text new)
difference_text (Slot machine slot) = codes "slot " ++ both machine slot
