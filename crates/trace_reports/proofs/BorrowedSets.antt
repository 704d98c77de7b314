-- Sets of borrowed records.
use Rattle.desk_types.proofs.Common.{[], ◌∙◌, ◌∷◌, ◌≡◌, ap, Bor, Equal, Greater, insert_key, Less, List, map}
use Rattle.desk_types.proofs.Common.{match_ordering, nat_cmp, Ordering, ordering_then, refl, slice_cmp, ℕ}
use Rattle.trace_reports.specs.Sets.{by_fields, bytes_of, Fields}

abbrev pub by_bytes : List (Bor (List ℕ)) → List (Bor (List ℕ)) → Ordering
by_bytes = slice_cmp (λ x y. slice_cmp nat_cmp x.now y.now)

order-same : (xs ys : List (Bor (List ℕ))) → by_bytes xs ys ≡ by_fields (bytes_of xs) (bytes_of ys)
order-same [] [] = refl
order-same [] (y ∷ ys) = refl
order-same (x ∷ xs) [] = refl
order-same (x ∷ xs) (y ∷ ys) = ap (ordering_then (slice_cmp nat_cmp x.now y.now)) (order-same xs ys)

module _ {R : Type 0} (fields : R → List (Bor (List ℕ))) where
  pub put-same : (keys : List R) (k : R)
      → map (λ r. bytes_of (fields r)) (insert_key (λ a b. by_bytes (fields a) (fields b)) keys k) ≡ insert_key by_fields (map (λ r. bytes_of (fields r)) keys) (bytes_of (fields k))
  put-same [] k = refl
  put-same (x ∷ xs) k =
      by (by_bytes (fields k) (fields x)) (put-same xs k)
      ∙ ap (λ o. match_ordering o (bytes_of (fields k) ∷ bytes_of (fields x) ∷ shown) (bytes_of (fields x) ∷ shown) (bytes_of (fields x) ∷ insert_key by_fields shown (bytes_of (fields k)))) (order-same (fields k) (fields x))
    where
      shown : List Fields
      shown = map (λ r. bytes_of (fields r)) xs

      put : List R
      put = insert_key (λ a b. by_bytes (fields a) (fields b)) xs k

      by : (o : Ordering) → map (λ r. bytes_of (fields r)) put ≡ insert_key by_fields shown (bytes_of (fields k))
          → map (λ r. bytes_of (fields r)) (match_ordering o (k ∷ x ∷ xs) (x ∷ xs) (x ∷ put))
          ≡ match_ordering o (bytes_of (fields k) ∷ bytes_of (fields x) ∷ shown) (bytes_of (fields x) ∷ shown) (bytes_of (fields x) ∷ insert_key by_fields shown (bytes_of (fields k)))
      by Less rest = refl
      by Equal rest = refl
      by Greater rest = ap (λ l. bytes_of (fields x) ∷ l) rest
