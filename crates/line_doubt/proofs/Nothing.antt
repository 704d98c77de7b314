-- No piece is in doubt without a source.
use Rattle.desk_types.proofs.Common.{[], ◌&&◌, ◌∙◌, ◌∷◌, ◌≡◌, ◌||◌, All, All-head, All-tail, ap, ap₂, Bool, cond, false, filter}
use Rattle.desk_types.proofs.Common.{get_or, History, List, nat_lt, placements_of, refl, true, ℕ}
use Rattle.std.proofs.lemmas.List.Folds.{list_any_none}
use Rattle.desk_types.specs.declared.placement.Placement.{Placement}
use Rattle.line_book.specs.Doubt.{doubts, is_in_doubt, is_late, is_near, is_near_splice, pieces_between}
use Rattle.line_doubt.proofs.Greatest.{never}

closed : (x z : Bool) (k : ℕ) → (x && (z && nat_lt k 0)) ≡ false
closed false z k = refl
closed true false k = refl
closed true true k = never k

not-near : (H : History) (p q : Placement) → is_near H 0 p q ≡ false
not-near H p q = closed _ _ (pieces_between H p q)

none-near : (H : History) (p : Placement) → is_near_splice H 0 p ≡ false
none-near H p = list_any_none (λ q. is_near H 0 p q || is_near H 0 q p) (placements_of H)
    (λ k d lt. ap₂ (λ a b. a || b) (not-near H p (get_or (placements_of H) k d))
    (not-near H (get_or (placements_of H) k d) p))

none-kept : (test : Placement → Bool) (ps : List Placement) → All (λ p. test p ≡ false) ps → filter test ps ≡ []
none-kept test [] all = refl
none-kept test (p ∷ ps) all =
    ap (λ b. cond b (p ∷ filter test ps) (filter test ps)) (All-head (λ p. test p ≡ false) p ps all)
    ∙ none-kept test ps (All-tail (λ p. test p ≡ false) p ps all)

pub no-doubt : (H : History) → All (λ (p : Placement). is_late H p ≡ false) (placements_of H) → doubts H [] 0 ≡ []
no-doubt H none = none-kept (is_in_doubt H [] 0) (placements_of H)
    (λ k d lt. ap₂ (λ a b. a || b) (none k d lt) (none-near H (get_or (placements_of H) k d)))
