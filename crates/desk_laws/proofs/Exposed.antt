-- Exposure by the minute since which a reel is out.
use Rattle.desk_types.proofs.Common.{[], ◌+◌, ◌-◌, ◌<◌, ◌∙◌, ◌∷◌, ◌≡◌, ◌≤◌, ap, arith, Bool, exposure_of}
use Rattle.desk_types.proofs.Common.{exposure_starts, false, History, is_out_at, IsJudged, IsNext, leb-false}
use Rattle.desk_types.proofs.Common.{leb-true, Name, nat_le, None, now_of, open_by, Option, option_map_or, option_or}
use Rattle.desk_types.proofs.Common.{out_since, refl, since_after, Some, subst, sym, true, unwrap_or, ℕ}
use Rattle.desk_laws.proofs.Common.{count-one, count-split, Entry, exposure_starts-quiet, is_out-untouched}
use Rattle.desk_laws.proofs.Common.{IsQuiet-untouched, Two}
use Rattle.desk_laws.proofs.{Judgements.AreBy, Judgements.by-desk_minute, Judgements.by-later}
use Rattle.desk_laws.proofs.{Openings.starts-by}
use Rattle.desk_types.proofs.{Exposure.is_out-after, Exposure.is_out-before, ReelCommands.IsQuiet-open}

-- ---- the desk minute

pub now-next : (H : History) (e : Entry) → IsNext Two H e → now_of (e ∷ H) ≡ e.effective
now-next H e next = let is = next.effective in omega (arith, is)

pub now-before : (H : History) (e : Entry) → IsNext Two H e → now_of H ≤ e.effective
now-before H e next = let is = next.effective in omega (arith, is)

-- ---- in its bag

or-not-none : {P : Type 0} (since : Option ℕ) (minute : ℕ) → option_or since (Some minute) ≡ None → P
or-not-none None minute none = cc
or-not-none (Some s) minute none = cc

in-at : (H : History) (reel : Name) (minute : ℕ) → AreBy H minute → out_since H reel ≡ None
    → is_out_at H reel minute ≡ false
unfolding is_out_at
in-at [] reel minute all in_bag = refl
in-at (e ∷ H) reel minute (first, all) in_bag =
    by (open_by reel e.stamped.command) refl in_bag (in-at H reel minute all)
  where
    by : (said : Option Bool) → open_by reel e.stamped.command ≡ said
        → since_after said e.effective (out_since H reel) ≡ None
        → (out_since H reel ≡ None → is_out_at H reel minute ≡ false) → is_out_at (e ∷ H) reel minute ≡ false
    by (Some true) is none before = or-not-none (out_since H reel) e.effective none
    by (Some false) is none before = is_out-after H e reel false minute is first
    by None is none before = is_out-untouched H e reel minute is ∙ before none

pub exposure-in_bag : (H : History) (reel : Name) (minute : ℕ) → out_since H reel ≡ None → now_of H ≤ minute
    → exposure_of H reel minute ≡ exposure_of H reel (now_of H)
unfolding exposure_of
exposure-in_bag H reel minute in_bag le =
    let all = by-desk_minute H in
    let parts = count-split (is_out_at H reel) (exposure_starts H reel) (now_of H) minute
    (starts-by H reel (now_of H) all) le in
    let rest = count-one (is_out_at H reel) false (now_of H) minute
    (λ t low high. in-at H reel t (by-later H (now_of H) t low all) in_bag) in
    omega (arith, parts, rest)

-- ---- out of its bag

out-from : (H : History) (reel : Name) (since t : ℕ) → out_since H reel ≡ Some since → since ≤ t
    → is_out_at H reel t ≡ true
out-from [] reel since t out le = cc
out-from (e ∷ H) reel since t out le =
    by (open_by reel e.stamped.command) refl out (λ is. out-from H reel since t is le)
  where
    opened : (before : Option ℕ) → out_since H reel ≡ before → option_or before (Some e.effective) ≡ Some since
        → t < e.effective
        → (out_since H reel ≡ Some since → is_out_at H reel t ≡ true) → is_out_at (e ∷ H) reel t ≡ true
    opened None none is lt before = let one = ap (λ o. unwrap_or o 0) is in absurd (omega (arith, one, lt, le))
    opened (Some s) some is lt before = is_out-before H e reel t lt ∙ before (some ∙ is)

    at : (b : Bool) → nat_le e.effective t ≡ b → open_by reel e.stamped.command ≡ Some true
        → option_or (out_since H reel) (Some e.effective) ≡ Some since
        → (out_since H reel ≡ Some since → is_out_at H reel t ≡ true) → is_out_at (e ∷ H) reel t ≡ true
    at true come says is before = is_out-after H e reel true t says (leb-true _ _ come)
    at false not_yet says is before = opened (out_since H reel) refl is (leb-false _ _ not_yet) before

    by : (said : Option Bool) → open_by reel e.stamped.command ≡ said
        → since_after said e.effective (out_since H reel) ≡ Some since
        → (out_since H reel ≡ Some since → is_out_at H reel t ≡ true) → is_out_at (e ∷ H) reel t ≡ true
    by (Some true) says is before = at (nat_le e.effective t) refl says is before
    by (Some false) says is before = cc
    by None says is before = is_out-untouched H e reel t says ∙ before is

pub since-by : (H : History) (reel : Name) (since minute : ℕ) → AreBy H minute → out_since H reel ≡ Some since
    → since ≤ minute
since-by [] reel since minute all out = cc
since-by (e ∷ H) reel since minute (first, all) out =
    by (open_by reel e.stamped.command) out (since-by H reel since minute all)
  where
    opened : (before : Option ℕ) → out_since H reel ≡ before → option_or before (Some e.effective) ≡ Some since
        → (out_since H reel ≡ Some since → since ≤ minute) → since ≤ minute
    opened None none is before = let one = ap (λ o. unwrap_or o 0) is in omega (arith, one, first)
    opened (Some s) some is before = before (some ∙ is)

    by : (said : Option Bool) → since_after said e.effective (out_since H reel) ≡ Some since
        → (out_since H reel ≡ Some since → since ≤ minute) → since ≤ minute
    by (Some true) is before = opened (out_since H reel) refl is before
    by (Some false) is before = cc
    by None is before = before is

starts-since : (H : History) (reel : Name) (since : ℕ) → IsJudged Two H → out_since H reel ≡ Some since
    → exposure_starts H reel ≤ since
starts-since [] reel since judged out = cc
starts-since (e ∷ H) reel since (next, judged) out =
    by (open_by reel e.stamped.command) refl out (starts-since H reel since judged)
  where
    opened : (before : Option ℕ) → out_since H reel ≡ before → option_or before (Some e.effective) ≡ Some since
        → (out_since H reel ≡ Some since → exposure_starts H reel ≤ since) → exposure_starts H reel ≤ since
    opened None none is before =
        let one = ap (λ o. unwrap_or o 0) is in
        let by_then = by-later H (now_of H) e.effective (now-before H e next) (by-desk_minute H) in
        let begun = starts-by H reel e.effective by_then in
        omega (arith, one, begun)
    opened (Some s) some is before = before (some ∙ is)

    by : (said : Option Bool) → open_by reel e.stamped.command ≡ said
        → since_after said e.effective (out_since H reel) ≡ Some since
        → (out_since H reel ≡ Some since → exposure_starts H reel ≤ since) → exposure_starts (e ∷ H) reel ≤ since
    by (Some true) says is before =
        let quiet = IsQuiet-open reel e.effective e.stamped.command says in
        subst (λ n. n ≤ since) (sym (exposure_starts-quiet H e reel quiet))
        (opened (out_since H reel) refl is before)
    by (Some false) says is before = cc
    by None says is before =
        let quiet = IsQuiet-untouched reel e.effective e.stamped.command says in
        subst (λ n. n ≤ since) (sym (exposure_starts-quiet H e reel quiet)) (before is)

-- The exposure of an opened reel goes on minute by minute.
pub exposure-out : (H : History) (reel : Name) (since minute : ℕ) → IsJudged Two H → out_since H reel ≡ Some since
    → since ≤ minute
    → exposure_of H reel minute ≡ exposure_of H reel since + (minute - since)
unfolding exposure_of
exposure-out H reel since minute judged out le =
    let parts = count-split (is_out_at H reel) (exposure_starts H reel) since minute
    (starts-since H reel since judged out) le in
    let rest = count-one (is_out_at H reel) true since minute (λ t low high. out-from H reel since t out low) in
    omega (arith, parts, rest)

pub used-then : (H : History) (reel : Name) (minute : ℕ) (since : Option ℕ) → IsJudged Two H
    → out_since H reel ≡ since → now_of H ≤ minute
    → exposure_of H reel minute
    ≡ exposure_of H reel (unwrap_or since (now_of H)) + option_map_or (λ from. minute - from) since 0
used-then H reel minute None judged in_bag le =
    let still = exposure-in_bag H reel minute in_bag le in omega (arith, still)
used-then H reel minute (Some from) judged out le =
    let early = since-by H reel from (now_of H) (by-desk_minute H) out in
    exposure-out H reel from minute judged out (omega (arith, early, le))
