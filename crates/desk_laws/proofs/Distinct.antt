-- Lists without duplicates.
use Rattle.desk_types.proofs.Common.{[], ◌++◌, ◌∙◌, ◌∷◌, ◌≡◌, AllByRecursion, Bool, false, filter}
use Rattle.desk_types.proofs.Common.{if◌then◌else◌, IsDistinct, List, list_any, or_parts, true}

pub all-append : {K : Type 0} (P : K → Type 0) (xs ys : List K) → AllByRecursion P xs → AllByRecursion P ys → AllByRecursion P (xs ++ ys)
all-append P [] ys all rest = rest
all-append P (x ∷ xs) ys (first, all) rest = (first, all-append P xs ys all rest)

module _ {K : Type 0} (eq : K → K → Bool) where
  all-filter : (P : K → Type 0) (test : K → Bool) (xs : List K) → AllByRecursion P xs → AllByRecursion P (filter test xs)
  all-filter P test [] all = tt
  all-filter P test (x ∷ xs) (first, all) = by (test x) (all-filter P test xs all)
    where
      by : (b : Bool) → AllByRecursion P (filter test xs) → AllByRecursion P (if b then x ∷ filter test xs else filter test xs)
      by true rest = (first, rest)
      by false rest = rest

  pub distinct-filter : (test : K → Bool) (xs : List K) → IsDistinct eq xs → IsDistinct eq (filter test xs)
  unfolding IsDistinct
  distinct-filter test [] distinct = tt
  distinct-filter test (x ∷ xs) (apart, distinct) = by (test x) (distinct-filter test xs distinct)
    where
      by : (b : Bool) → IsDistinct eq (filter test xs) → IsDistinct eq (if b then x ∷ filter test xs else filter test xs)
      by true rest = (all-filter (λ y. eq x y ≡ false) test xs apart, rest)
      by false rest = rest

  split : ((x y : K) → eq x y ≡ eq y x) → (x : K) (xs ys : List K) → AllByRecursion (λ y. list_any (eq y) (x ∷ xs) ≡ false) ys
      → AllByRecursion (λ y. eq x y ≡ false) ys × AllByRecursion (λ y. list_any (eq y) xs ≡ false) ys
  split flips x xs [] all = (tt, tt)
  split flips x xs (y ∷ ys) (first, all) =
      let both = or_parts (eq y x) (list_any (eq y) xs) first in
      let rest = split flips x xs ys all in
      ((flips x y ∙ both.0, rest.0), (both.1, rest.1))

  pub distinct-join : ((x y : K) → eq x y ≡ eq y x) → (xs ys : List K) → IsDistinct eq xs → IsDistinct eq ys → AllByRecursion (λ y. list_any (eq y) xs ≡ false) ys
      → IsDistinct eq (xs ++ ys)
  unfolding IsDistinct
  distinct-join flips [] ys distinct others apart = others
  distinct-join flips (x ∷ xs) ys (first, distinct) others apart =
      let both = split flips x xs ys apart in
      (all-append (λ y. eq x y ≡ false) xs ys first both.0, distinct-join flips xs ys distinct others both.1)
