-- Exposure over time and over later entries.
use Rattle.desk_types.proofs.Common.{[], ◌++◌, ◌-◌, ◌<◌, ◌∙◌, ◌∷◌, ◌≡◌, ◌≢◌, ◌≤◌, All, All-head, All-tail, ap}
use Rattle.desk_types.proofs.Common.{arith, bake_by, Bool, count_by, exposure_of, exposure_starts, false}
use Rattle.desk_types.proofs.Common.{History, if◌then◌else◌, is_out_at, is_some, IsJudged, IsUntouched}
use Rattle.desk_types.proofs.Common.{last_bake, leb-false, leb-true, List, minutes_between, Name, nat_le}
use Rattle.desk_types.proofs.Common.{None, Option, option_map, option_or, receipt_of, refl, same, same-true}
use Rattle.desk_types.proofs.Common.{Some, subst, true, unwrap_or, ℕ}
use Rattle.desk_laws.proofs.Common.{Command, count-one, count-split, Entry, is_out-untouched, Receipt}
use Rattle.desk_laws.proofs.Common.{ReelBaked, Two}
use Rattle.desk_laws.proofs.{Judgements.judged-prefix, Judgements.untouched, ReelsLater.receipt-prefix}
use Rattle.desk_types.proofs.{Exposure.is_out-before, Minutes.count-agree}
use Rattle.std.proofs.{lemmas.List.FromFn.length-range_with_len, lemmas.List.Sums.count_by-le-length}

-- ---- one history

pub exposure-within : (H : History) (reel : Name) (minute : ℕ) → exposure_of H reel minute ≤ minute - exposure_starts H reel
unfolding exposure_of
exposure-within H reel minute =
    subst (λ n. count_by (is_out_at H reel) (minutes_between (exposure_starts H reel) minute) ≤ n)
    (length-range_with_len (exposure_starts H reel) (minute - exposure_starts H reel))
    (count_by-le-length (is_out_at H reel) (minutes_between (exposure_starts H reel) minute))

pub exposure-rises : (H : History) (reel : Name) (earlier later : ℕ) → earlier ≤ later → exposure_of H reel earlier ≤ exposure_of H reel later
unfolding exposure_of
exposure-rises H reel earlier later le = by (nat_le (exposure_starts H reel) earlier) refl
  where
    by : (b : Bool) → nat_le (exposure_starts H reel) earlier ≡ b → exposure_of H reel earlier ≤ exposure_of H reel later
    by true begun =
        let start : exposure_starts H reel ≤ earlier = leb-true _ _ begun in
        let parts = count-split (is_out_at H reel) (exposure_starts H reel) earlier later start le in
        omega (arith, parts)
    by false not_begun =
        let start : earlier < exposure_starts H reel = leb-false _ _ not_begun in
        let few = exposure-within H reel earlier in
        omega (arith, start, few)

-- ---- later entries

out-later : (more : List Entry) (G : History) (reel : Name) (minute bound : ℕ) → All (λ (x : Entry). bound ≤ x.effective) more → minute < bound
    → is_out_at (more ++ G) reel minute ≡ is_out_at G reel minute
out-later [] G reel minute bound all before = refl
out-later (e ∷ more) G reel minute bound all before =
    let first = All-head (λ (x : Entry). bound ≤ x.effective) e more all in
    is_out-before (more ++ G) e reel minute (omega (arith, before, first)) ∙ out-later more G reel minute bound (All-tail (λ (x : Entry). bound ≤ x.effective) e more all) before

pub untouched-exposure : (H : History) (reel : Name) (minute : ℕ) → IsUntouched H reel → exposure_of H reel minute ≡ 0
unfolding exposure_of is_out_at
untouched-exposure H reel minute all = count-one (is_out_at H reel) false (exposure_starts H reel) minute (λ t low high. inside H t all)
  where
    inside : (G : History) (t : ℕ) → IsUntouched G reel → is_out_at G reel t ≡ false
    inside [] t all = refl
    inside (e ∷ G) t (none, all) = is_out-untouched G e reel t none ∙ inside G t all

exposure-kept : (more : List Entry) (G : History) (reel : Name) (minute : ℕ) → exposure_starts (more ++ G) reel ≡ exposure_starts G reel
    → All (λ (e : Entry). minute ≤ e.effective) more → exposure_of (more ++ G) reel minute ≡ exposure_of G reel minute
unfolding exposure_of
exposure-kept more G reel minute starts all =
    ap (λ s. count_by (is_out_at (more ++ G) reel) (minutes_between s minute)) starts
    ∙ count-agree (is_out_at (more ++ G) reel) (is_out_at G reel) (exposure_starts G reel) minute (λ t low high. out-later more G reel t minute all high)

bake-other : (reel : Name) (minute : ℕ) (command : Command) → command ≢ ReelBaked reel → bake_by reel minute command ≡ None
bake-other reel minute (ReelBaked r) other = by (same r reel) refl
  where
    by : (b : Bool) → same r reel ≡ b → (if b then Some minute else None) ≡ None
    by true here = absurd (other (ap ReelBaked (same-true r reel here)))
    by false here = refl
bake-other reel minute _ other = refl

bake-kept : (more : List Entry) (G : History) (reel : Name) → All (λ (e : Entry). e.stamped.command ≢ ReelBaked reel) more → last_bake (more ++ G) reel ≡ last_bake G reel
bake-kept [] G reel none = refl
bake-kept (e ∷ more) G reel none =
    ap (λ said. option_or said (last_bake (more ++ G) reel))
    (bake-other reel e.effective e.stamped.command (All-head (λ (x : Entry). x.stamped.command ≢ ReelBaked reel) e more none))
    ∙ bake-kept more G reel (All-tail (λ (x : Entry). x.stamped.command ≢ ReelBaked reel) e more none)

-- Exposure never falls between bakes.
pub exposure-later : (G : History) (more : List Entry) (reel : Name) (earlier later : ℕ) → IsJudged Two (more ++ G)
    → All (λ (e : Entry). e.stamped.command ≢ ReelBaked reel) more → All (λ (e : Entry). earlier ≤ e.effective) more → earlier ≤ later
    → exposure_of G reel earlier ≤ exposure_of (more ++ G) reel later
exposure-later G more reel earlier later judged unbaked after le = by (receipt_of G reel) refl
  where
    by : (said : Option Receipt) → receipt_of G reel ≡ said → exposure_of G reel earlier ≤ exposure_of (more ++ G) reel later
    by None none =
        let nothing = untouched-exposure G reel earlier (untouched G reel (judged-prefix G (more ++ G) (more, refl) judged) none) in omega (arith, nothing)
    by (Some receipt) said =
        let stays = receipt-prefix G (more ++ G) reel (more, refl) judged (ap is_some said) in
        let starts : exposure_starts (more ++ G) reel ≡ exposure_starts G reel =
        ap (λ b. unwrap_or (option_or b (option_map (λ (r : Receipt). r.effective) (receipt_of (more ++ G) reel))) 0) (bake-kept more G reel unbaked)
        ∙ ap (λ r. unwrap_or (option_or (last_bake G reel) (option_map (λ (r : Receipt). r.effective) r)) 0) stays in
        let kept = exposure-kept more G reel earlier starts after in
        let rose = exposure-rises (more ++ G) reel earlier later le in
        omega (arith, kept, rose)
