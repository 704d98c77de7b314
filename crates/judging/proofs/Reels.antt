-- Searching a slot's reels in order, including spent ones.
use Rattle.desk_types.proofs.Common.{[], ◌++◌, ◌+◌, ◌-◌, ◌<◌, ◌∙◌, ◌∷◌, ◌≡◌, ◌≤◌, ◌⊎◌, ap, arith, Bool, cond}
use Rattle.desk_types.proofs.Common.{drop, drop-next, drop_all, false, get_or, History, inl, inr, left_of}
use Rattle.desk_types.proofs.Common.{length, List, live_on, lt-ltb, ltb-false, ltb-true, min, Name, nat_lt}
use Rattle.desk_types.proofs.Common.{None, pieces_off, pieces_picked, refl, scrap_picks, slice_get, Some}
use Rattle.desk_types.proofs.Common.{sum_by, sum_by-cons, sym, tape_of, true, ℕ}
use Rattle.desk_laws.proofs.Common.{Pick, Purpose}
use Rattle.desk_laws.proofs.Lives.{scrap-filter}
use Rattle.std.proofs.lemmas.Option.{get_or_from_slice_get, slice_get_cases, slice_get_within}
use Rattle.std.specs.List.{filter, find}

-- ---- one place further

pub drop-at : {X : Type 0} (xs : List X) (i : ℕ) (x : X) → slice_get xs i ≡ Some x → drop i xs ≡ x ∷ drop (i + 1) xs
drop-at xs i x is = drop-next xs i x (slice_get_within xs i x is) (sym (get_or_from_slice_get xs i x x is))

pub no-gap : {X : Type 0} (xs : List X) (i n : ℕ) → n ≡ length xs → i < n → slice_get xs i ≡ None → ⊥
no-gap {X} xs i n is inside none = by (slice_get_cases xs i).1
  where
    by : (((x : X) × (i < length xs) × (slice_get xs i ≡ Some x) × (get_or xs i x ≡ x)) ⊎ ((length xs ≤ i) × (slice_get xs i ≡ None))) → ⊥
    by (inl (x, within, some, got)) = let both : Some x ≡ None = sym some ∙ none in cc
    by (inr (past, gone)) = omega (arith, is, inside, past)

module _ {X : Type 0} (test : X → Bool) (xs : List X) (i : ℕ) where
  pub filter-past : (x : X) → slice_get xs i ≡ Some x → test x ≡ false → filter test (drop (i + 1) xs) ≡ filter test (drop i xs)
  filter-past x is fails = sym (ap (filter test) (drop-at xs i x is) ∙ ap (λ b. cond b (x ∷ filter test (drop (i + 1) xs)) (filter test (drop (i + 1) xs))) fails)

  pub filter-here : (x : X) → slice_get xs i ≡ Some x → test x ≡ true → filter test (drop i xs) ≡ x ∷ filter test (drop (i + 1) xs)
  filter-here x is passes = ap (filter test) (drop-at xs i x is) ∙ ap (λ b. cond b (x ∷ filter test (drop (i + 1) xs)) (filter test (drop (i + 1) xs))) passes

  pub filter-end : length xs ≤ i → filter test (drop i xs) ≡ []
  filter-end past = ap (filter test) (drop_all i xs past)

  pub filter-gap : slice_get xs i ≡ None → filter test (drop i xs) ≡ []
  filter-gap none = by (slice_get_cases xs i).1
    where
      by : (((x : X) × (i < length xs) × (slice_get xs i ≡ Some x) × (get_or xs i x ≡ x)) ⊎ ((length xs ≤ i) × (slice_get xs i ≡ None))) → filter test (drop i xs) ≡ []
      by (inl (x, within, some, got)) = let both : Some x ≡ None = sym some ∙ none in cc
      by (inr (past, gone)) = filter-end past

-- ---- live reels

pub spent : (pieces told : ℕ) → told ≡ pieces → told ≤ 0 → nat_lt 0 pieces ≡ false
spent pieces told is none = let zero : pieces ≡ 0 = omega (arith, is, none) in ap (nat_lt 0) zero

find-kept : (keep test : Name → Bool) (xs : List Name) → ((x : Name) → test x ≡ true → keep x ≡ true) → find test (filter keep xs) ≡ find test xs
find-kept keep test [] only = refl
find-kept keep test (x ∷ xs) only = by (keep x) refl (test x) refl (find-kept keep test xs only)
  where
    by : (k : Bool) → keep x ≡ k → (t : Bool) → test x ≡ t → find test (filter keep xs) ≡ find test xs
        → find test (cond k (x ∷ filter keep xs) (filter keep xs)) ≡ cond t (Some x) (find test xs)
    by true kept t is rest = ap (λ b. cond b (Some x) (find test (filter keep xs))) is ∙ ap (λ o. cond t (Some x) o) rest
    by false lost true is rest = let kept = only x is in cc
    by false lost false is rest = rest

off-none : (reel : Name) (n : ℕ) (purpose : Purpose) → n ≡ 0 → pieces_off reel n purpose ≡ []
off-none reel n purpose none = ap (λ m. pieces_off reel m purpose) none

pub scrap-none : (pieces : Name → ℕ) (purpose : Purpose) (reels : List Name) → scrap_picks pieces purpose reels 0 ≡ []
scrap-none pieces purpose [] = refl
scrap-none pieces purpose (r ∷ rs) =
    ap (λ ps. ps ++ scrap_picks pieces purpose rs (0 - pieces r)) (off-none r (min 0 (pieces r)) purpose (omega arith))
    ∙ ap (scrap_picks pieces purpose rs) (none-less (pieces r))
    ∙ scrap-none pieces purpose rs
  where
    none-less : (n : ℕ) → 0 - n ≡ 0
    none-less n = omega arith

sum-kept : (pieces : Name → ℕ) (reels : List Name) → sum_by pieces (filter (λ r. nat_lt 0 (pieces r)) reels) ≡ sum_by pieces reels
sum-kept pieces [] = refl
sum-kept pieces (r ∷ rs) = by (nat_lt 0 (pieces r)) refl (sum-kept pieces rs)
  where
    by : (b : Bool) → nat_lt 0 (pieces r) ≡ b → sum_by pieces (filter (λ x. nat_lt 0 (pieces x)) rs) ≡ sum_by pieces rs
        → sum_by pieces (cond b (r ∷ filter (λ x. nat_lt 0 (pieces x)) rs) (filter (λ x. nat_lt 0 (pieces x)) rs)) ≡ sum_by pieces (r ∷ rs)
    by true is rest = sum_by-cons pieces r (filter (λ x. nat_lt 0 (pieces x)) rs) ∙ ap (λ n. pieces r + n) rest ∙ sym (sum_by-cons pieces r rs)
    by false is rest = let none = ltb-false 0 (pieces r) is in rest ∙ sym (sum_by-cons pieces r rs ∙ omega (arith, none))

pub find-tape : (H : History) (machine slot : Name) (picks : List Pick)
    → find (λ r. nat_lt (pieces_picked picks r) (left_of H r)) (live_on H machine slot) ≡ find (λ r. nat_lt (pieces_picked picks r) (left_of H r)) (tape_of H machine slot)
unfolding live_on
find-tape H machine slot picks =
    find-kept (λ r. nat_lt 0 (left_of H r)) (λ r. nat_lt (pieces_picked picks r) (left_of H r)) (tape_of H machine slot)
    (λ r left. let less = ltb-true (pieces_picked picks r) (left_of H r) left in lt-ltb 0 (left_of H r) (omega (arith, less)))

module _ (H : History) (machine slot : Name) (reels : List Name) (live : filter (λ reel. nat_lt 0 (left_of H reel)) reels ≡ live_on H machine slot) where
  pub scrap-live : (purpose : Purpose) (n : ℕ) → scrap_picks (left_of H) purpose reels n ≡ scrap_picks (left_of H) purpose (tape_of H machine slot) n
  unfolding live_on
  scrap-live purpose n =
      sym (scrap-filter (left_of H) purpose reels n) ∙ ap (λ rs. scrap_picks (left_of H) purpose rs n) live ∙ scrap-filter (left_of H) purpose (tape_of H machine slot) n

  pub sum-live : sum_by (left_of H) (live_on H machine slot) ≡ sum_by (left_of H) reels
  sum-live = ap (sum_by (left_of H)) (sym live) ∙ sum-kept (left_of H) reels
