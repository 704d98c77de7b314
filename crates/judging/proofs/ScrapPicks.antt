-- Scraps: taking pieces off a slot's reels one after another.
use Rattle.desk_types.proofs.Common.{[], ◌++◌, ◌+◌, ◌-◌, ◌<◌, ◌∙◌, ◌∷◌, ◌≡◌, ap, append-nil, append_assoc}
use Rattle.desk_types.proofs.Common.{arith, Bool, drop, false, first_refusal, History, is_vacant, left_of}
use Rattle.desk_types.proofs.Common.{List, live_on, lt-ltb, ltb-true, min, Name, nat_lt, None, pieces_off}
use Rattle.desk_types.proofs.Common.{refl, scrap_picks, scrap_refusal, slice_get, Some, sum_by, sum_by-cons}
use Rattle.desk_types.proofs.Common.{sym, true, ℕ}
use Rattle.desk_laws.proofs.Common.{Pick, Purpose, ReelShort, SlotEmpty}
use Rattle.judging.proofs.Reels.{drop-at, scrap-none, sum-live}
use Rattle.judging.specs.{Scrapping.IsScrapped, declared.scraps.Scrapping.Scrapping}
use Rattle.std.specs.List.{filter}

-- ---- one more reel

module _ (pieces : Name → ℕ) (purpose : Purpose) (reels : List Name) (i : ℕ) where
  pub scrap-step : (reel : Name) (was now : List Pick) (wanting after : ℕ) → slice_get reels i ≡ Some reel
      → now ≡ was ++ pieces_off reel (min wanting (pieces reel)) purpose → after ≡ wanting - pieces reel
      → now ++ scrap_picks pieces purpose (drop (i + 1) reels) after ≡ was ++ scrap_picks pieces purpose (drop i reels) wanting
  scrap-step reel was now wanting after is put less =
      ap (λ ps. ps ++ scrap_picks pieces purpose (drop (i + 1) reels) after) put
      ∙ ap (λ n. (was ++ pieces_off reel (min wanting (pieces reel)) purpose) ++ scrap_picks pieces purpose (drop (i + 1) reels) n) less
      ∙ append_assoc was (pieces_off reel (min wanting (pieces reel)) purpose) (scrap_picks pieces purpose (drop (i + 1) reels) (wanting - pieces reel))
      ∙ ap (λ rs. was ++ scrap_picks pieces purpose rs wanting) (sym (drop-at reels i reel is))

  pub sum-step : (reel : Name) (wanting after : ℕ) → slice_get reels i ≡ Some reel → after ≡ wanting - pieces reel
      → after - sum_by pieces (drop (i + 1) reels) ≡ wanting - sum_by pieces (drop i reels)
  sum-step reel wanting after is less =
      let both = ap (sum_by pieces) (drop-at reels i reel is) ∙ sum_by-cons pieces reel (drop (i + 1) reels) in omega (arith, less, both)

  pub scrap-done : (picks all : List Pick) (wanting : ℕ) → wanting ≡ 0 → picks ++ scrap_picks pieces purpose (drop i reels) wanting ≡ all → picks ≡ all
  scrap-done picks all wanting none is =
      sym (append-nil picks)
      ∙ ap (λ ps. picks ++ ps) (sym (ap (scrap_picks pieces purpose (drop i reels)) none ∙ scrap-none pieces purpose (drop i reels)))
      ∙ is

-- ---- the refusal

pub scrap-empty : (H : History) (machine slot : Name) (n : ℕ) → is_vacant H machine slot ≡ true → scrap_refusal H machine slot n ≡ Some (SlotEmpty slot)
unfolding scrap_refusal
scrap-empty H machine slot n vacant =
    ap (λ b. first_refusal ((b, SlotEmpty slot) ∷ (nat_lt (sum_by (left_of H) (live_on H machine slot)) n, ReelShort slot) ∷ [])) vacant

scrap-by : (H : History) (machine slot : Name) (n : ℕ) (short : Bool) → is_vacant H machine slot ≡ false
    → nat_lt (sum_by (left_of H) (live_on H machine slot)) n ≡ short → scrap_refusal H machine slot n ≡ first_refusal ((short, ReelShort slot) ∷ [])
unfolding scrap_refusal
scrap-by H machine slot n short taken is =
    ap (λ b. first_refusal ((b, SlotEmpty slot) ∷ (nat_lt (sum_by (left_of H) (live_on H machine slot)) n, ReelShort slot) ∷ [])) taken
    ∙ ap (λ b. first_refusal ((b, ReelShort slot) ∷ [])) is

not-less : (m n : ℕ) → n - m ≡ 0 → nat_lt m n ≡ false
not-less m n is = by (nat_lt m n) refl
  where
    by : (b : Bool) → nat_lt m n ≡ b → nat_lt m n ≡ false
    by true less = let lt = ltb-true m n less in absurd (omega (arith, lt, is))
    by false less = less

module _ (H : History) (machine slot : Name) (reels : List Name) (live : filter (λ reel. nat_lt 0 (left_of H reel)) reels ≡ live_on H machine slot)
    (purpose : Purpose) (given n : ℕ) (scrapping : Scrapping) (same : given ≡ n) (taken : is_vacant H machine slot ≡ false)
    (scrapped : IsScrapped (left_of H) purpose reels given scrapping) where
  pub scrap-short : 0 < scrapping.wanting → scrap_refusal H machine slot n ≡ Some (ReelShort slot)
  scrap-short wanting =
      let all = sum-live H machine slot reels live in
      scrap-by H machine slot n true taken (lt-ltb (sum_by (left_of H) (live_on H machine slot)) n (omega (arith, wanting, scrapped.wanting, same, all)))

  pub scrap-enough : scrapping.wanting ≡ 0 → scrap_refusal H machine slot n ≡ None
  scrap-enough wanting =
      let all = sum-live H machine slot reels live in
      scrap-by H machine slot n false taken (not-less (sum_by (left_of H) (live_on H machine slot)) n (omega (arith, wanting, scrapped.wanting, same, all)))
