-- Lists whose places rise, and the same lists from their end.
use Rattle.desk_types.proofs.Common.{[], ◌++◌, ◌∙◌, ◌∷◌, ◌≡◌, ◌≤◌, All, All-append, All-cons, All-head, All-nil, All-tail}
use Rattle.desk_types.proofs.Common.{ap, arith, List, max, refl, reverse, reverse-append, subst, sym, ⊤, ℕ}
use Rattle.std.proofs.lemmas.List.Elements.{All-weaker}
use Rattle.line_doubt.specs.Marks.{Rise}
use Rattle.line_doubt.proofs.Greatest.{greatest, greatest-append}

module _ {X : Type 0} (at : X → ℕ) where
  pub rise-lower : (low from : ℕ) (xs : List X) → low ≤ from → Rise at from xs → Rise at low xs
  rise-lower low from [] le rise = tt
  rise-lower low from (x ∷ xs) le rise = let first = rise.0 in (omega (arith, le, first), rise.1)

  -- The places fall, and none is above the number.
  abbrev pub Fall : ℕ → List X → Type 0
  Fall from [] = ⊤
  Fall from (x ∷ xs) = (at x ≤ from) × Fall (at x) xs

  none-above : (from : ℕ) (xs : List X) → Fall from xs → All (λ x. at x ≤ from) xs
  none-above from [] fall = All-nil (λ x. at x ≤ from)
  none-above from (x ∷ xs) fall =
      let first = fall.0 in
      All-cons (λ x. at x ≤ from) x xs first (All-weaker (λ y. at y ≤ at x) (λ y. at y ≤ from)
      (λ y le. omega (arith, le, first)) xs (none-above (at x) xs fall.1))

  reversed-below : (from : ℕ) (xs : List X) → All (λ x. at x ≤ from) xs → All (λ x. at x ≤ from) (reverse xs)
  reversed-below from [] all = all
  reversed-below from (x ∷ xs) all = subst (All (λ x. at x ≤ from)) (sym (reverse-append (x ∷ []) xs))
      (All-append (λ x. at x ≤ from) (reverse xs) (x ∷ [])
      (reversed-below from xs (All-tail (λ x. at x ≤ from) x xs all))
      (All-cons (λ x. at x ≤ from) x [] (All-head (λ x. at x ≤ from) x xs all) (All-nil (λ x. at x ≤ from))))

  rise-last : (low : ℕ) (xs : List X) (x : X) → low ≤ at x → All (λ y. at y ≤ at x) xs → Rise at low xs
      → Rise at low (xs ++ x ∷ [])
  rise-last low [] x le all rise = (le, tt)
  rise-last low (y ∷ xs) x le all rise = (
    rise.0,
    rise-last (at y) xs x (All-head (λ y. at y ≤ at x) y xs all)
        (All-tail (λ y. at y ≤ at x) y xs all) rise.1,
  )

  pub reversed-rises : (from : ℕ) (xs : List X) → Fall from xs → Rise at 0 (reverse xs)
  reversed-rises from [] fall = tt
  reversed-rises from (x ∷ xs) fall = subst (Rise at 0) (sym (reverse-append (x ∷ []) xs))
      (rise-last 0 (reverse xs) x (omega arith) (reversed-below (at x) xs (none-above (at x) xs fall.1))
      (reversed-rises (at x) xs fall.1))

pub greatest-reversed : {X : Type 0} (f : X → ℕ) (xs : List X) → greatest f (reverse xs) ≡ greatest f xs
greatest-reversed f [] = refl
greatest-reversed f (x ∷ xs) =
    ap (greatest f) (reverse-append (x ∷ []) xs)
    ∙ greatest-append f (reverse xs) (x ∷ [])
    ∙ turned (f x) (greatest f (reverse xs)) (greatest f xs) (greatest-reversed f xs)
  where
    turned : (a b c : ℕ) → b ≡ c → max b (max a 0) ≡ max a c
    turned a b c is = omega (arith, is)
