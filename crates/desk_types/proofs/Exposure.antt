-- How an entry changes the exposure of a reel.
use Rattle.desk_types.proofs.Common.{◌+◌, ◌-◌, ◌<◌, ◌∙◌, ◌∷◌, ◌≡◌, ◌≤◌, ap, arith, Bool, cond, count_by}
use Rattle.desk_types.proofs.Common.{exposure_of, exposure_starts, false, History, if◌then◌else◌, is_out_at}
use Rattle.desk_types.proofs.Common.{latest, minutes_between, Name, nat_le, nat_tests, None, open_by, Option}
use Rattle.desk_types.proofs.Common.{option_or, refl, Some, true, unwrap_or, ℕ}
use Rattle.desk_types.proofs.Minutes.{count-agree, count-one, count-split}
use Rattle.desk_types.specs.declared.command.Entry.{Entry}

-- How the last command on the reel in effect by the minute leaves it.
abbrev said_at : History → Name → ℕ → Option Bool
said_at H name minute = latest (λ e. if nat_le e.effective minute then open_by name e.stamped.command else None) H

by-then : (a b : ℕ) → a ≤ b → nat_le a b ≡ true
by-then a b le = grind (arith, nat_tests)

not-yet : (a b : ℕ) → b < a → nat_le a b ≡ false
not-yet a b lt = grind (arith, nat_tests)

pub is_out-before : (H : History) (e : Entry) (name : Name) (minute : ℕ) → minute < e.effective → is_out_at (e ∷ H) name minute ≡ is_out_at H name minute
unfolding is_out_at
is_out-before H e name minute lt =
    ap (λ b. unwrap_or (option_or (if b then open_by name e.stamped.command else None) (said_at H name minute)) false) (not-yet e.effective minute lt)

pub is_out-after : (H : History) (e : Entry) (name : Name) (out : Bool) (minute : ℕ) → open_by name e.stamped.command ≡ Some out → e.effective ≤ minute
    → is_out_at (e ∷ H) name minute ≡ out
unfolding is_out_at
is_out-after H e name out minute says le =
    ap (λ b. unwrap_or (option_or (if b then open_by name e.stamped.command else None) (said_at H name minute)) false) (by-then e.effective minute le)
    ∙ ap (λ o. unwrap_or (option_or o (said_at H name minute)) false) says

pub is_out-untouched : (H : History) (e : Entry) (name : Name) (minute : ℕ) → open_by name e.stamped.command ≡ None
    → is_out_at (e ∷ H) name minute ≡ is_out_at H name minute
unfolding is_out_at
is_out-untouched H e name minute none = by (nat_le e.effective minute)
  where
    by : (b : Bool) → unwrap_or (option_or (if b then open_by name e.stamped.command else None) (said_at H name minute)) false ≡ unwrap_or (said_at H name minute) false
    by true = ap (λ o. unwrap_or (option_or o (said_at H name minute)) false) none
    by false = refl

pub exposure-before : (H : History) (e : Entry) (name : Name) → exposure_starts (e ∷ H) name ≡ exposure_starts H name
    → (minute : ℕ) → minute ≤ e.effective → exposure_of (e ∷ H) name minute ≡ exposure_of H name minute
unfolding exposure_of
exposure-before H e name starts minute le =
    ap (λ s. count_by (is_out_at (e ∷ H) name) (minutes_between s minute)) starts
    ∙ count-agree (is_out_at (e ∷ H) name) (is_out_at H name) (exposure_starts H name) minute (λ t low high. is_out-before H e name t (omega arith))

-- After the entry's minute, either every minute counts or none does.
pub exposure-after : (H : History) (e : Entry) (name : Name) (out : Bool) → open_by name e.stamped.command ≡ Some out
    → exposure_starts (e ∷ H) name ≡ exposure_starts H name → exposure_starts H name ≤ e.effective → (minute : ℕ) → e.effective ≤ minute
    → exposure_of (e ∷ H) name minute ≡ exposure_of H name e.effective + cond out (minute - e.effective) 0
unfolding exposure_of
exposure-after H e name out says starts low minute le =
    ap (λ s. count_by p (minutes_between s minute)) starts
    ∙ count-split p (exposure_starts H name) e.effective minute low le
    ∙ ap (λ n. n + count_by p (minutes_between e.effective minute))
    (count-agree p (is_out_at H name) (exposure_starts H name) e.effective (λ t from to. is_out-before H e name t to))
    ∙ ap (λ n. count_by (is_out_at H name) (minutes_between (exposure_starts H name) e.effective) + n)
    (count-one p out e.effective minute (λ t from to. is_out-after H e name out t says from))
  where
    p : ℕ → Bool
    p = is_out_at (e ∷ H) name

pub exposure-anew : (H : History) (e : Entry) (name : Name) → open_by name e.stamped.command ≡ Some false → exposure_starts (e ∷ H) name ≡ e.effective
    → (minute : ℕ) → exposure_of (e ∷ H) name minute ≡ 0
unfolding exposure_of
exposure-anew H e name says starts minute =
    ap (λ s. count_by (is_out_at (e ∷ H) name) (minutes_between s minute)) starts
    ∙ count-one (is_out_at (e ∷ H) name) false e.effective minute (λ t from to. is_out-after H e name false t says from)

pub exposure-untouched : (H : History) (e : Entry) (name : Name) → open_by name e.stamped.command ≡ None → exposure_starts (e ∷ H) name ≡ exposure_starts H name
    → (minute : ℕ) → exposure_of (e ∷ H) name minute ≡ exposure_of H name minute
unfolding exposure_of
exposure-untouched H e name none starts minute =
    ap (λ s. count_by (is_out_at (e ∷ H) name) (minutes_between s minute)) starts
    ∙ count-agree (is_out_at (e ∷ H) name) (is_out_at H name) (exposure_starts H name) minute (λ t low high. is_out-untouched H e name t none)
