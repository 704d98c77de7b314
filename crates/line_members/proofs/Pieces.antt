-- The pieces that differ, take by take.
use Rattle.desk_types.proofs.Common.{[], ◌+◌, ◌++◌, ◌<◌, ◌∙◌, ◌∷◌, ◌≡◌, ◌≤◌, ap, append_assoc, arith, drop, drop-next, drop_all}
use Rattle.desk_types.proofs.Common.{get_or, length, List, Name, Option, option_to_list, refl, sym, ℕ}
use Rattle.desk_types.specs.declared.take.Take.{Take}
use Rattle.line_members.specs.declared.comparison.Piece.{Piece}
use Rattle.line_members.specs.Comparison.{piece_of, pieces}

next : (ts : List Take) (rs : List (Option Name)) (i : ℕ) (t : Take) (r : Option Name)
    → i < length ts → t ≡ get_or ts i t → i < length rs → r ≡ get_or rs i r
    → pieces (drop i ts) (drop i rs) ≡ option_to_list (piece_of t r) ++ pieces (drop (i + 1) ts) (drop (i + 1) rs)
next ts rs i t r inside is within has = rw (drop-next ts i t inside is, drop-next rs i r within has) refl

pub more : (ts : List Take) (rs : List (Option Name)) (i : ℕ) (t : Take) (r : Option Name) (before after : List Piece)
    → i < length ts → t ≡ get_or ts i t → i < length rs → r ≡ get_or rs i r
    → after ≡ before ++ option_to_list (piece_of t r)
    → pieces ts rs ≡ before ++ pieces (drop i ts) (drop i rs)
    → pieces ts rs ≡ after ++ pieces (drop (i + 1) ts) (drop (i + 1) rs)
more ts rs i t r before after inside is within has pushed so =
    so ∙ ap (λ ps. before ++ ps) (next ts rs i t r inside is within has)
    ∙ sym (append_assoc before (option_to_list (piece_of t r)) (pieces (drop (i + 1) ts) (drop (i + 1) rs)))
    ∙ ap (λ ps. ps ++ pieces (drop (i + 1) ts) (drop (i + 1) rs)) (sym pushed)

no_reels : (ts : List Take) → pieces ts [] ≡ []
no_reels [] = refl
no_reels (t ∷ ts) = refl

ended : (ts us : List Take) (rs : List (Option Name)) (i j : ℕ) → length rs ≤ i → length rs ≤ j
    → pieces ts (drop i rs) ≡ pieces us (drop j rs)
ended ts us rs i j over past =
    ap (pieces ts) (drop_all i rs over) ∙ no_reels ts ∙ sym (no_reels us) ∙ sym (ap (pieces us) (drop_all j rs past))

pub no_more : (ts : List Take) (rs : List (Option Name)) (i : ℕ) (before after : List Piece)
    → length rs ≤ i → after ≡ before
    → pieces ts rs ≡ before ++ pieces (drop i ts) (drop i rs)
    → pieces ts rs ≡ after ++ pieces (drop (i + 1) ts) (drop (i + 1) rs)
no_more ts rs i before after over same so =
    so ∙ ap (λ ps. before ++ ps) (ended (drop i ts) (drop (i + 1) ts) rs i (i + 1) over (omega (arith, over)))
    ∙ ap (λ ps. ps ++ pieces (drop (i + 1) ts) (drop (i + 1) rs)) (sym same)
