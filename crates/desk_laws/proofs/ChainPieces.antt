-- The pieces of a reel over a chain of desk files.
use Rattle.desk_types.proofs.Common.{[], ◌+◌, ◌∙◌, ◌∷◌, ◌≡◌, ap, arith, Bool, false, found_of, if◌then◌else◌}
use Rattle.desk_types.proofs.Common.{is_some, IsJudged, IsPrefix, left_of, List, Name, None, Option}
use Rattle.desk_types.proofs.Common.{option_map_or, placed_of, receipt_of, refl, scrapped_of, Some}
use Rattle.desk_types.proofs.Common.{sum_by-cons, sym, true}
use Rattle.desk_laws.proofs.Common.{DeskFile, IsChain, judged-by-two, placed_over, quantity_of, Receipt}
use Rattle.desk_laws.proofs.Common.{received_over, scrapped_over, Two}
use Rattle.desk_laws.proofs.{Balance.balance, Balance.unreceived-empty, Judgements.judged-prefix}
use Rattle.desk_laws.proofs.{ReelsLater.receipt-prefix}
use Rattle.desk_laws.specs.Chain.{Follows, left_over, new_in}

quantity-none : (o : Option Receipt) → is_some o ≡ false → option_map_or (λ (r : Receipt). r.quantity) o 0 ≡ 0
quantity-none None none = refl
quantity-none (Some r) none = cc

-- A desk is begun with the pieces that were left of a reel.
begun-with : (file : DeskFile) (older : List DeskFile) (reel : Name) → IsJudged Two file.begun → Follows file older → quantity_of file.begun reel ≡ left_over older reel
begun-with file [] reel judged follows = ap (λ H. quantity_of H reel) follows
begun-with file (before ∷ older) reel judged follows = by (is_some (receipt_of file.begun reel)) refl
  where
    by : (b : Bool) → is_some (receipt_of file.begun reel) ≡ b → quantity_of file.begun reel ≡ left_of before.whole reel
    by true is = follows.quantities reel is
    by false is = quantity-none (receipt_of file.begun reel) is ∙ sym (unreceived-empty file.begun reel judged (none (receipt_of file.begun reel) is)) ∙ sym (follows.alike.left reel)
      where
        none : (o : Option Receipt) → is_some o ≡ false → o ≡ None
        none None said = refl
        none (Some r) said = cc

-- The pieces of a receipt are new to the line, or were left in the file before.
new-or-left : (file : DeskFile) (older : List DeskFile) (reel : Name) → IsJudged Two file.whole → IsPrefix file.begun file.whole → Follows file older
    → quantity_of file.whole reel ≡ new_in file reel + left_over older reel
new-or-left file older reel judged begins follows = by (is_some (receipt_of file.begun reel)) refl
  where
    left : quantity_of file.begun reel ≡ left_over older reel
    left = begun-with file older reel (judged-prefix file.begun file.whole begins judged) follows

    by : (b : Bool) → is_some (receipt_of file.begun reel) ≡ b
        → quantity_of file.whole reel ≡ (if b then 0 else quantity_of file.whole reel) + left_over older reel
    by true is =
        let same : quantity_of file.whole reel ≡ quantity_of file.begun reel = ap (λ o. option_map_or (λ (r : Receipt). r.quantity) o 0) (receipt-prefix file.begun file.whole reel begins judged is) in
        omega (arith, same, left)
    by false is = let none = quantity-none (receipt_of file.begun reel) is in omega (arith, left, none)

pub balance-over : (files : List DeskFile) (reel : Name) → IsChain files
    → received_over files reel ≡ placed_over files reel + scrapped_over files reel + left_over files reel
balance-over [] reel chain = refl
balance-over (file ∷ older) reel (by_rules, begins, follows, rest) =
    let judged = judged-by-two file.rules file.whole by_rules in
    let before = balance-over older reel rest in
    let own = balance file.whole reel judged in
    let new = new-or-left file older reel judged begins follows in
    let received = sum_by-cons (λ (f : DeskFile). new_in f reel + found_of f.whole reel) file older in
    let placed = sum_by-cons (λ (f : DeskFile). placed_of f.whole reel) file older in
    let scrapped = sum_by-cons (λ (f : DeskFile). scrapped_of f.whole reel) file older in
    omega (arith, before, own, new, received, placed, scrapped)
