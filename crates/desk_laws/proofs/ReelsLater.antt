-- Facts about a reel that later entries keep.
use Rattle.desk_types.proofs.Common.{[], ◌++◌, ◌∙◌, ◌∷◌, ◌≡◌, ap, History, is_some, IsJudged, IsPrefix}
use Rattle.desk_types.proofs.Common.{left_of, List, Name, None, Option, option_or, receipt_by, receipt_of}
use Rattle.desk_types.proofs.Common.{refl, Some, subst, true}
use Rattle.desk_laws.proofs.Common.{Entry, Receipt, Two}
use Rattle.desk_laws.proofs.{Accepted.received-once, Balance.spent-next}

pub not-again : (H : History) (e : Entry) (reel : Name) → IsJudged Two (e ∷ H) → is_some (receipt_of H reel) ≡ true → receipt_by reel e.effective e.stamped.command ≡ None
not-again H e reel (next, judged) received = by (receipt_by reel e.effective e.stamped.command) refl
  where
    by : (said : Option Receipt) → receipt_by reel e.effective e.stamped.command ≡ said → receipt_by reel e.effective e.stamped.command ≡ None
    by None is = is
    by (Some receipt) is = let fresh = received-once H e reel receipt next is in cc

receipt-later : (later : List Entry) (G : History) (reel : Name) → IsJudged Two (later ++ G) → is_some (receipt_of G reel) ≡ true → receipt_of (later ++ G) reel ≡ receipt_of G reel
receipt-later [] G reel judged received = refl
receipt-later (e ∷ later) G reel judged received =
    let before = receipt-later later G reel judged.1 received in
    ap (λ said. option_or said (receipt_of (later ++ G) reel)) (not-again (later ++ G) e reel judged (ap is_some before ∙ received)) ∙ before

pub receipt-prefix : (G H : History) (reel : Name) → IsPrefix G H → IsJudged Two H → is_some (receipt_of G reel) ≡ true → receipt_of H reel ≡ receipt_of G reel
receipt-prefix G H reel (later, is) judged received =
    ap (λ es. receipt_of es reel) is ∙ receipt-later later G reel (subst (IsJudged Two) is judged) received

spent-later : (later : List Entry) (G : History) (reel : Name) → IsJudged Two (later ++ G) → is_some (receipt_of G reel) ≡ true → left_of G reel ≡ 0
    → left_of (later ++ G) reel ≡ 0
spent-later [] G reel judged received none = none
spent-later (e ∷ later) G reel judged received none =
    let stays = receipt-later later G reel judged.1 received in
    spent-next (later ++ G) e reel judged (not-again (later ++ G) e reel judged (ap is_some stays ∙ received)) (spent-later later G reel judged.1 received none)

pub spent-stays : (G H : History) (reel : Name) → IsPrefix G H → IsJudged Two H → is_some (receipt_of G reel) ≡ true → left_of G reel ≡ 0 → left_of H reel ≡ 0
spent-stays G H reel (later, is) judged received none = ap (λ es. left_of es reel) is ∙ spent-later later G reel (subst (IsJudged Two) is judged) received none
