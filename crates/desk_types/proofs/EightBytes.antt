-- Comparing bytes eight at a time as one number.
use Rattle.desk_types.proofs.Common.{[], ◌*◌, ◌++◌, ◌+◌, ◌-◌, ◌<◌, ◌==◌, ◌∙◌, ◌∷◌, ◌≡◌, ◌≢◌, ◌≤◌, All, ap}
use Rattle.desk_types.proofs.Common.{arith, cases_lt, drop, Equal, Greater, inl, inr, is_eq, length}
use Rattle.desk_types.proofs.Common.{length-drop, length-take, Less, List, nat_cmp, nat_cmp_total}
use Rattle.desk_types.proofs.Common.{nat_list_cmp_total, nat_tests, Ordering, ordering_then, pointwise, refl}
use Rattle.desk_types.proofs.Common.{slice_cmp, suc, sym, take, texts_ties, tied_itself, zero, ℕ}
use Rattle.desk_types.specs.Fixed.{IsPadded, word_at}
use Rattle.std.proofs.Common.{replicate, slice_index}
use Rattle.std.proofs.lemmas.List.{drop-drop, get_or-drop, get_or-take, get_or_past}
use Rattle.std.specs.Slice.Scan.{big_endian}

abbrev Bytes : List ℕ → Type 0
Bytes xs = (i : ℕ) → slice_index xs i < 256

abbrev by_bytes : List ℕ → List ℕ → Ordering
by_bytes = slice_cmp nat_cmp

then-then : (a b c : Ordering) → ordering_then (ordering_then a b) c ≡ ordering_then a (ordering_then b c)
then-then Less b c = refl
then-then Equal b c = refl
then-then Greater b c = refl

then-Equal : (a : Ordering) → a ≡ ordering_then a Equal
then-Equal Less = refl
then-Equal Equal = refl
then-Equal Greater = refl

one-more : (m n x y : ℕ) → x < 256 → y < 256 → nat_cmp (m * 256 + x) (n * 256 + y) ≡ ordering_then (nat_cmp m n) (nat_cmp x y)
one-more m n x y p q = grind (arith, nat_tests)

spelt : (m n : ℕ) (xs ys : List ℕ) → length xs ≡ length ys → Bytes xs → Bytes ys
    → nat_cmp (big_endian m xs) (big_endian n ys) ≡ ordering_then (nat_cmp m n) (by_bytes xs ys)
spelt m n [] [] e f g = then-Equal _
spelt m n [] (y ∷ ys) e f g = absurd (omega (arith, e))
spelt m n (x ∷ xs) [] e f g = absurd (omega (arith, e))
spelt m n (x ∷ xs) (y ∷ ys) e f g =
    spelt (m * 256 + x) (n * 256 + y) xs ys (omega (arith, e)) (λ i. f (suc i)) (λ i. g (suc i))
    ∙ ap (λ o. ordering_then o (by_bytes xs ys)) (one-more m n x y (f 0) (g 0))
    ∙ then-then (nat_cmp m n) (nat_cmp x y) (by_bytes xs ys)

parted : (n : ℕ) (xs ys : List ℕ) → n ≤ length xs → n ≤ length ys
    → by_bytes xs ys ≡ ordering_then (by_bytes (take n xs) (take n ys)) (by_bytes (drop n xs) (drop n ys))
parted zero xs ys p q = refl
parted (suc n) [] ys p q = absurd (omega (arith, p))
parted (suc n) (x ∷ xs) [] p q = absurd (omega (arith, q))
parted (suc n) (x ∷ xs) (y ∷ ys) p q =
    ap (ordering_then (nat_cmp x y)) (parted n xs ys (omega (arith, p)) (omega (arith, q))) ∙ sym (then-then (nat_cmp x y) _ _)

small : (at : ℕ) (xs : List ℕ) → Bytes xs → Bytes (take 8 (drop at xs))
small at xs f i = elim (cases_lt i 8) [
  | inl l ↦ omega (arith, get_or-take 8 (drop at xs) i 0 l, get_or-drop at xs i 0, f (at + i))
  | inr l ↦ omega (arith, get_or_past (take 8 (drop at xs)) i 0 (omega (arith, length-take 8 (drop at xs))))
]

unlike : (x y : ℕ) (o : Ordering) → (x ≢ y) → ordering_then (nat_cmp x y) o ≡ nat_cmp x y
unlike x y o n = grind (arith, nat_tests)

same : (x : ℕ) → nat_cmp x x ≡ Equal
same x = tied_itself nat_cmp_total x

module _ (at : ℕ) (xs ys : List ℕ) (p : at + 8 ≤ length xs) (q : at + 8 ≤ length ys) (f : Bytes xs) (g : Bytes ys) where
  step : by_bytes (drop at xs) (drop at ys) ≡ ordering_then (nat_cmp (word_at xs at) (word_at ys at)) (by_bytes (drop (at + 8) xs) (drop (at + 8) ys))
  step =
      let k = length-drop at xs in
      let l = length-drop at ys in
      let m = length-take 8 (drop at xs) in
      let n = length-take 8 (drop at ys) in
      parted 8 (drop at xs) (drop at ys) (omega (arith, k, p)) (omega (arith, l, q))
      ∙ ap (λ o. ordering_then o (by_bytes (drop 8 (drop at xs)) (drop 8 (drop at ys)))) (sym (spelt 0 0 (take 8 (drop at xs)) (take 8 (drop at ys)) (omega (arith, k, l, m, n, p, q)) (small at xs f) (small at ys g)))
      ∙ (λ i. ordering_then (nat_cmp (word_at xs at) (word_at ys at)) (by_bytes (drop-drop 8 at xs i) (drop-drop 8 at ys i)))

  pub apart : (x y : ℕ) → x ≡ word_at xs at → y ≡ word_at ys at → (x ≢ y) → by_bytes xs ys ≡ by_bytes (drop at xs) (drop at ys) → nat_cmp x y ≡ by_bytes xs ys
  apart x y a b n rest = sym (rest ∙ step ∙ (λ i. ordering_then (nat_cmp (sym a i) (sym b i)) (by_bytes (drop (at + 8) xs) (drop (at + 8) ys))) ∙ unlike x y _ n)

  pub alike : (x y : ℕ) → x ≡ word_at xs at → y ≡ word_at ys at → x ≡ y → by_bytes xs ys ≡ by_bytes (drop at xs) (drop at ys)
      → by_bytes xs ys ≡ by_bytes (drop (at + 8) xs) (drop (at + 8) ys)
  alike x y a b e rest =
      let level : nat_cmp (word_at xs at) (word_at ys at) ≡ Equal = ap (λ w. nat_cmp w (word_at ys at)) (sym a ∙ e ∙ b) ∙ same (word_at ys at) in
      rest ∙ step ∙ ap (λ o. ordering_then o (by_bytes (drop (at + 8) xs) (drop (at + 8) ys))) level

before : (y : ℕ) → 0 < y → nat_cmp 0 y ≡ Less
before y p = grind (arith, nat_tests)

behind : (x : ℕ) → 0 < x → nat_cmp x 0 ≡ Greater
behind x p = grind (arith, nat_tests)

pub padding : (i j : ℕ) (u v : List ℕ) → length u + i ≡ length v + j → All (λ b. 0 < b) u → All (λ b. 0 < b) v
    → by_bytes u v ≡ by_bytes (u ++ replicate i 0) (v ++ replicate j 0)
padding i j [] [] e f g =
    let same : i ≡ j = omega (arith, e) in
    sym (tied_itself nat_list_cmp_total (replicate i 0)) ∙ ap (λ k. by_bytes (replicate i 0) (replicate k 0)) same
padding zero j [] (y ∷ v) e f g = absurd (omega (arith, e))
padding (suc i) j [] (y ∷ v) e f g = sym (ap (λ o. ordering_then o (by_bytes (replicate i 0) (v ++ replicate j 0))) (before y (g 0 0 (omega arith))))
padding i zero (x ∷ u) [] e f g = absurd (omega (arith, e))
padding i (suc j) (x ∷ u) [] e f g = sym (ap (λ o. ordering_then o (by_bytes (u ++ replicate i 0) (replicate j 0))) (behind x (f 0 0 (omega arith))))
padding i j (x ∷ u) (y ∷ v) e f g =
    ap (ordering_then (nat_cmp x y)) (padding i j u v (omega (arith, e)) (λ k d l. f (suc k) d (omega (arith, l))) (λ k d l. g (suc k) d (omega (arith, l))))

abbrev Printable : List ℕ → Type 0
Printable bytes = All (λ b. (0x20 ≤ b) × (b ≤ 0x7e)) bytes

module _ (width : ℕ) (xs ys : List ℕ) (k l : ℕ) (p : IsPadded width xs k) (q : IsPadded width ys l) where
  -- Printable names have the order and equality of the arrays that store them.
  pub kept-order : length (take k xs) ≤ width → length (take l ys) ≤ width → Printable (take k xs) → Printable (take l ys) → by_bytes (take k xs) (take l ys) ≡ by_bytes xs ys
  kept-order e f a b =
      padding (width - length (take k xs)) (width - length (take l ys)) (take k xs) (take l ys) (omega (arith, e, f))
      (λ i d m. omega (arith, (a i d m).0)) (λ i d m. omega (arith, (b i d m).0))
      ∙ (λ t. by_bytes (p.padding t) (q.padding t))

  pub kept-same : length (take k xs) ≤ width → length (take l ys) ≤ width → Printable (take k xs) → Printable (take l ys) → pointwise ◌==◌ (take k xs) (take l ys) ≡ pointwise ◌==◌ xs ys
  kept-same e f a b = texts_ties (take k xs) (take l ys) ∙ ap is_eq (kept-order e f a b) ∙ sym (texts_ties xs ys)
