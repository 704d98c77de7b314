-- Histories with a difference: the new desk doesn't carry on the old one.
use Rattle.desk_types.proofs.Common.{◌∙◌, ◌≡◌, ap, false, History, sym, true, unwrap_or}
use Rattle.chain_check.proofs.SameReels.{same-life}
use Rattle.chain_check.proofs.StartedBoards.{not-idle}
use Rattle.chain_check.specs.Difference.{IsDifference, Refutes}
use Rattle.chain_check.specs.declared.difference.Difference.{Difference}
use Rattle.chain_check.specs.declared.difference.Difference.TheVariants.{Alternate, Board, Level, Life, Lot}
use Rattle.chain_check.specs.declared.difference.Difference.TheVariants.{Minute, NewWork, OldWork, Open, Part}
use Rattle.chain_check.specs.declared.difference.Difference.TheVariants.{Received, Reel, ReelPart, Remaining}
use Rattle.chain_check.specs.declared.difference.Difference.TheVariants.{Selection, Sheet, Slot}

pub refuted : (H H' : History) (d : Difference) → IsDifference H H' d → Refutes H H' d
refuted H H' (Minute old new) is = λ alike. is.differ (sym is.old_is ∙ alike.minute ∙ is.new_is)
refuted H H' (Part part) is = λ alike. is (alike.parts part)
refuted H H' (Alternate part alternate) is = λ alike. is (alike.alternates part alternate)
refuted H H' (Sheet product machine) is = λ alike. is (alike.sheets product machine)
refuted H H' (Selection machine) is = λ alike. is (alike.selections machine)
refuted H H' (OldWork board) is = λ alike. not-idle H board is alike.old_idle
refuted H H' (NewWork board) is = λ alike. not-idle H' board is alike.new_idle
refuted H H' (Board board) is = λ alike. let never : true ≡ false = sym (alike.boards_known board is.0) ∙ is.1 in cc
refuted H H' (Reel reel) is = λ alike. let never : true ≡ false = sym (alike.reels_known reel is.0) ∙ is.1 in cc
refuted H H' (Remaining reel old new) is = λ alike. is.differ (sym is.old_is ∙ alike.left reel ∙ is.new_is)
refuted H H' (Received reel old new) is = λ carries. is.1.differ (sym is.1.old_is ∙ sym (carries.quantities reel is.0) ∙ is.1.new_is)
refuted H H' (ReelPart reel old new) is = λ alike. is.1.differ (sym is.1.old_is ∙ (alike.reels reel is.0).part ∙ is.1.new_is)
refuted H H' (Lot reel old new) is = λ alike. is.1.differ (sym is.1.old_is ∙ (alike.reels reel is.0).lot ∙ is.1.new_is)
refuted H H' (Level reel) is = λ alike. is.1 (alike.reels reel is.0).moisture
refuted H H' (Open reel old new) is = λ alike. is.1.differ (sym is.1.old_is ∙ (alike.reels reel is.0).out ∙ is.1.new_is)
refuted H H' (Life reel old new) is = λ alike.
    is.1.differ (sym is.1.old_is ∙ same-life H H' reel (ap (λ o. unwrap_or o 0) alike.minute) (alike.reels reel is.0) ∙ is.1.new_is)
refuted H H' (Slot machine slot) is = λ alike. is (alike.slots machine slot)
