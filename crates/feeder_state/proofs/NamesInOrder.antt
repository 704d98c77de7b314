-- Names in an order, each once: which names they are says which list it is.
use Rattle.desk_types.proofs.Common.{[], ◌&&◌, ◌||◌, ◌∙◌, ◌∷◌, ◌≡◌, AllByRecursion, ap, Bool}
use Rattle.desk_types.proofs.Common.{CmpEqualImpliesEq, cond, Equal, false, flat_map, Greater, in_order}
use Rattle.desk_types.proofs.Common.{IsStrictlySortedBy, IsTotalOrder, Less, List, Name, or_left, Ordering}
use Rattle.desk_types.proofs.Common.{ordering_reverse, refl, same, same-refl, same-true, sym, true}
use Rattle.desk_laws.proofs.{Mounts.all-at, Mounts.has, Mounts.has-filter, NameSets.has-put}
use Rattle.desk_laws.proofs.{NameSets.ordered-put}
use Rattle.std.proofs.lemmas.List.Kept.{IsStrictlySortedBy-filter}
use Rattle.std.specs.{Cmp.tied_itself, List.filter, Ordering.is_gt}

-- ---- facts about all names

level : (a b : Ordering) → a ≡ ordering_reverse b → is_gt a ≡ false → is_gt b ≡ false → a ≡ Equal
level Less Less turned up down = cc
level Less Equal turned up down = cc
level Less Greater turned up down = cc
level Equal b turned up down = refl
level Greater b turned up down = cc

module _ (R : Name → Name → Ordering) (o : IsTotalOrder R) (exact : CmpEqualImpliesEq R) where
  first-least : (x y : Name) (ys : List Name) → AllByRecursion (λ z. R y z ≡ Less) ys → has (y ∷ ys) x ≡ true → is_gt (R y x) ≡ false
  first-least x y ys before there = by (same x y) refl there
    where
      by : (b : Bool) → same x y ≡ b → (b || has ys x) ≡ true → is_gt (R y x) ≡ false
      by true here there = ap (λ z. is_gt (R y z)) (same-true x y here) ∙ ap is_gt (tied_itself o y)
      by false away there = ap is_gt (all-at (λ z. R y z ≡ Less) ys x before there)

  not-again : (x : Name) (xs : List Name) → AllByRecursion (λ z. R x z ≡ Less) xs → has xs x ≡ false
  not-again x xs before = by (has xs x) refl
    where
      by : (b : Bool) → has xs x ≡ b → has xs x ≡ false
      by true there = let itself = tied_itself o x in let less = all-at (λ z. R x z ≡ Less) xs x before there in cc
      by false away = away

  pub ordered-same : (xs ys : List Name) → IsStrictlySortedBy R xs → IsStrictlySortedBy R ys → ((r : Name) → has xs r ≡ has ys r) → xs ≡ ys
  unfolding IsStrictlySortedBy
  ordered-same [] [] up up' agree = refl
  ordered-same [] (y ∷ ys) up up' agree = let at = agree y in let here = or_left (same y y) (has ys y) (same-refl y) in cc
  ordered-same (x ∷ xs) [] up up' agree = let at = agree x in let here = or_left (same x x) (has xs x) (same-refl x) in cc
  ordered-same (x ∷ xs) (y ∷ ys) (first, up) (first', up') agree = ap (λ l. x ∷ l) (ordered-same xs ys up up' tails) ∙ ap (λ z. z ∷ ys) heads
    where
      heads : x ≡ y
      heads =
          exact x y (level (R x y) (R y x) (o.antisymm x y)
          (first-least y x xs first (agree y ∙ or_left (same y y) (has ys y) (same-refl y)))
          (first-least x y ys first' (sym (agree x) ∙ or_left (same x x) (has xs x) (same-refl x))))

      tails : (r : Name) → has xs r ≡ has ys r
      tails r = by (same r x) refl
        where
          by : (b : Bool) → same r x ≡ b → has xs r ≡ has ys r
          by true here =
              ap (has xs) (same-true r x here) ∙ not-again x xs first
              ∙ sym (ap (has ys) (same-true r x here ∙ heads) ∙ not-again y ys first')
          by false away = sym (ap (λ b. b || has xs r) away) ∙ agree r ∙ ap (λ b. b || has ys r) (ap (same r) (sym heads) ∙ away)

  -- ---- names put in order

  pub in_order-ordered : (names : List Name) → IsStrictlySortedBy R (in_order R names)
  unfolding IsStrictlySortedBy
  in_order-ordered [] = tt
  in_order-ordered (x ∷ xs) = ordered-put R o exact (in_order R xs) x (in_order-ordered xs)

  pub has-in_order : (names : List Name) (r : Name) → has (in_order R names) r ≡ has names r
  has-in_order [] r = refl
  has-in_order (x ∷ xs) r = has-put R o exact (in_order R xs) x r ∙ ap (λ b. same r x || b) (has-in_order xs r)

  pub in_order-same : (xs ys : List Name) → ((r : Name) → has xs r ≡ has ys r) → in_order R xs ≡ in_order R ys
  in_order-same xs ys agree =
      ordered-same (in_order R xs) (in_order R ys) (in_order-ordered xs) (in_order-ordered ys)
      (λ r. has-in_order xs r ∙ agree r ∙ sym (has-in_order ys r))

  -- ---- results for names in order

  told-some : {X : Type 0} (tell : Name → List X) (some : Name → Bool) → ((r : Name) → some r ≡ false → tell r ≡ []) → (names : List Name)
      → flat_map tell names ≡ flat_map tell (filter (λ r. some r) names)
  told-some tell some none [] = refl
  told-some tell some none (x ∷ xs) = by (some x) refl (told-some tell some none xs)
    where
      by : (b : Bool) → some x ≡ b → flat_map tell xs ≡ flat_map tell (filter (λ r. some r) xs)
          → flat_map tell (x ∷ xs) ≡ flat_map tell (cond b (x ∷ filter (λ r. some r) xs) (filter (λ r. some r) xs))
      by true is rest = rw rest refl
      by false is rest = rw (none x is) rest

  pub told-same : {X : Type 0} (tell : Name → List X) (some : Name → Bool) → ((r : Name) → some r ≡ false → tell r ≡ []) → (xs ys : List Name)
      → IsStrictlySortedBy R xs → IsStrictlySortedBy R ys → ((r : Name) → some r ≡ true → has xs r ≡ has ys r) → flat_map tell xs ≡ flat_map tell ys
  told-same tell some none xs ys up up' agree =
      told-some tell some none xs
      ∙ ap (flat_map tell) (ordered-same (filter (λ r. some r) xs) (filter (λ r. some r) ys) (IsStrictlySortedBy-filter R some xs up) (IsStrictlySortedBy-filter R some ys up')
      (λ r. has-filter some xs r ∙ both (some r) (has xs r) (has ys r) (agree r) ∙ sym (has-filter some ys r)))
      ∙ sym (told-some tell some none ys)
    where
      both : (s a b : Bool) → (s ≡ true → a ≡ b) → (s && a) ≡ (s && b)
      both true a b is = is refl
      both false a b is = refl
