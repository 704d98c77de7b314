-- The shortest sufficient prefix of some reels, reel by reel.
use Rattle.desk_types.proofs.Common.{[], ◌++◌, ◌+◌, ◌-◌, ◌<◌, ◌∙◌, ◌∷◌, ◌≡◌, ap, append-nil, append_assoc}
use Rattle.desk_types.proofs.Common.{arith, Bool, cond, drop, drop-next, false, get_or, leb-false, leb-true}
use Rattle.desk_types.proofs.Common.{length, List, map, nat_le, None, Option, option_map, refl, Some}
use Rattle.desk_types.proofs.Common.{sum_by-cons, sym, true, unwrap_or, ℕ}
use Rattle.desk_laws.proofs.Common.{ReelView}
use Rattle.std.specs.List.{filter, find}
use Rattle.trace_reports.specs.Kit.{enough, pieces_of_reels, prefixes}

-- ---- sufficient prefixes

pub enough-zero : (reels : List ReelView) → enough 0 reels ≡ []
unfolding prefixes
enough-zero [] = refl
enough-zero (r ∷ reels) = refl

pub enough-nil : (needed : ℕ) → enough needed [] ≡ []
unfolding prefixes
enough-nil needed = by (nat_le needed 0)
  where
    by : (b : Bool) → unwrap_or {T = List ReelView} (cond b (Some []) None) [] ≡ []
    by true = refl
    by false = refl

le-less : (n a b : ℕ) → nat_le n (a + b) ≡ nat_le (n - a) b
le-less n a b = by (nat_le n (a + b)) (nat_le (n - a) b) refl refl
  where
    by : (p q : Bool) → nat_le n (a + b) ≡ p → nat_le (n - a) b ≡ q → p ≡ q
    by true true whole rest = refl
    by false false whole rest = refl
    by true false whole rest = let high = leb-true n (a + b) whole in let low = leb-false (n - a) b rest in absurd (omega (arith, high, low))
    by false true whole rest = let high = leb-false n (a + b) whole in let low = leb-true (n - a) b rest in absurd (omega (arith, high, low))

find-behind : (needed : ℕ) (r : ReelView) (ps : List (List ReelView))
    → find (λ p. nat_le needed (pieces_of_reels p)) (map (λ p. r ∷ p) ps) ≡ option_map (λ p. r ∷ p) (find (λ p. nat_le (needed - r.remaining) (pieces_of_reels p)) ps)
find-behind needed r [] = refl
find-behind needed r (p ∷ ps) =
    ap (λ b. cond b (Some (r ∷ p)) (find (λ q. nat_le needed (pieces_of_reels q)) (map (λ q. r ∷ q) ps)))
    (ap (nat_le needed) (sum_by-cons (λ (v : ReelView). v.remaining) r p) ∙ le-less needed r.remaining (pieces_of_reels p))
    ∙ by (nat_le (needed - r.remaining) (pieces_of_reels p)) (find-behind needed r ps)
  where
    by : (b : Bool) → find (λ q. nat_le needed (pieces_of_reels q)) (map (λ q. r ∷ q) ps) ≡ option_map (λ q. r ∷ q) (find (λ q. nat_le (needed - r.remaining) (pieces_of_reels q)) ps)
        → cond b (Some (r ∷ p)) (find (λ q. nat_le needed (pieces_of_reels q)) (map (λ q. r ∷ q) ps))
        ≡ option_map (λ q. r ∷ q) (cond b (Some p) (find (λ q. nat_le (needed - r.remaining) (pieces_of_reels q)) ps))
    by true rest = refl
    by false rest = rest

pub enough-next : (needed : ℕ) (r : ReelView) (reels : List ReelView) → 0 < needed → enough needed (r ∷ reels) ≡ r ∷ enough (needed - r.remaining) reels
unfolding prefixes
enough-next needed r reels some =
    ap (λ b. unwrap_or (cond b (Some []) (find (λ p. nat_le needed (pieces_of_reels p)) (map (λ p. r ∷ p) (prefixes reels)))) (r ∷ reels)) (wanted (nat_le needed 0) refl)
    ∙ ap (λ o. unwrap_or o (r ∷ reels)) (find-behind needed r (prefixes reels))
    ∙ by (find (λ p. nat_le (needed - r.remaining) (pieces_of_reels p)) (prefixes reels))
  where
    wanted : (b : Bool) → nat_le needed 0 ≡ b → nat_le needed 0 ≡ false
    wanted true is = let none = leb-true needed 0 is in absurd (omega (arith, none, some))
    wanted false is = is

    by : (o : Option (List ReelView)) → unwrap_or (option_map (λ p. r ∷ p) o) (r ∷ reels) ≡ r ∷ unwrap_or o reels
    by None = refl
    by (Some p) = refl

-- ---- one step over filtered reels

module _ (test : ReelView → Bool) (reels : List ReelView) (i : ℕ) (reel : ReelView) (inside : i < length reels) (is : reel ≡ get_or reels i reel) where
  at : filter test (drop i reels) ≡ cond (test reel) (reel ∷ filter test (drop (i + 1) reels)) (filter test (drop (i + 1) reels))
  at = ap (filter test) (drop-next reels i reel inside is)

  pub step-chosen : (was now : List ReelView) (missing after : ℕ) → test reel ≡ true → 0 < missing → now ≡ was ++ reel ∷ [] → after ≡ missing - reel.remaining
      → now ++ enough after (filter test (drop (i + 1) reels)) ≡ was ++ enough missing (filter test (drop i reels))
  step-chosen was now missing after passes some put less =
      let rest = filter test (drop (i + 1) reels) in
      ap (λ l. l ++ enough after rest) put
      ∙ ap (λ n. (was ++ reel ∷ []) ++ enough n rest) less
      ∙ append_assoc was (reel ∷ []) (enough (missing - reel.remaining) rest)
      ∙ ap (λ l. was ++ l) (sym (enough-next missing reel rest some))
      ∙ ap (λ l. was ++ enough missing l) (sym (at ∙ ap (λ b. cond b (reel ∷ rest) rest) passes))

  pub step-past : (missing : ℕ) → test reel ≡ false → enough missing (filter test (drop (i + 1) reels)) ≡ enough missing (filter test (drop i reels))
  step-past missing fails =
      let rest = filter test (drop (i + 1) reels) in
      ap (enough missing) (sym (at ∙ ap (λ b. cond b (reel ∷ rest) rest) fails))

-- ---- the end

pub end-reached : (chosen reels all : List ReelView) (missing : ℕ) → missing ≡ 0 → chosen ++ enough missing reels ≡ all → chosen ≡ all
end-reached chosen reels all missing none is =
    sym (append-nil chosen) ∙ ap (λ l. chosen ++ l) (sym (ap (λ n. enough n reels) none ∙ enough-zero reels)) ∙ is

pub end-of_reels : (test : ReelView → Bool) (chosen reels all : List ReelView) (missing : ℕ) → reels ≡ [] → chosen ++ enough missing (filter test reels) ≡ all → chosen ≡ all
end-of_reels test chosen reels all missing none is =
    sym (append-nil chosen) ∙ ap (λ l. chosen ++ l) (sym (ap (λ l. enough missing (filter test l)) none ∙ enough-nil missing)) ∙ is
