-- Facts about the histories that a desk can reach.
use Rattle.desk_types.proofs.Common.{[], ◌++◌, ◌∙◌, ◌∷◌, ◌≡◌, ◌≤◌, AllByRecursion, ap, arith, Bool}
use Rattle.desk_types.proofs.Common.{desk_minute, History, IsJudged, IsPrefix, IsUntouched, le-max_right}
use Rattle.desk_types.proofs.Common.{List, max, Name, None, now_of, open_by, Option, option_or, receipt_by}
use Rattle.desk_types.proofs.Common.{receipt_of, refl, Some, subst, unwrap_or, ℕ}
use Rattle.desk_laws.proofs.Common.{Entry, Two}
use Rattle.desk_laws.proofs.Accepted.{handled-received}
use Rattle.std.proofs.Math.Nat.{le-max_left}

-- ---- reels

pub or-none : {X : Type 0} (a b : Option X) → option_or a b ≡ None → (a ≡ None) × (b ≡ None)
or-none None b none = (refl, none)
or-none (Some x) b none = cc

pub untouched : (H : History) (name : Name) → IsJudged Two H → receipt_of H name ≡ None → IsUntouched H name
untouched [] name judged none = tt
untouched (e ∷ H) name (next, judged) none = (unhandled (open_by name e.stamped.command) refl, untouched H name judged both.1)
  where
    both : (receipt_by name e.effective e.stamped.command ≡ None) × (receipt_of H name ≡ None)
    both = or-none _ (receipt_of H name) none

    unhandled : (said : Option Bool) → open_by name e.stamped.command ≡ said → open_by name e.stamped.command ≡ None
    unhandled None is = is
    unhandled (Some out) is = absurd (handled-received H e name out next both.0 is both.1)

-- ---- time

abbrev pub AreBy : History → ℕ → Type 0
AreBy H minute = AllByRecursion (λ (e : Entry). e.effective ≤ minute) H

pub by-later : (H : History) (minute later : ℕ) → minute ≤ later → AreBy H minute → AreBy H later
by-later [] minute later le all = tt
by-later (e ∷ H) minute later le (first, all) = (omega arith, by-later H minute later le all)

-- Every entry took effect by the desk minute.
pub by-desk_minute : (H : History) → AreBy H (now_of H)
by-desk_minute [] = tt
by-desk_minute (e ∷ H) =
    (le-max_left e.effective _, by-later H _ _ (le-max_right e.effective (now_of H)) (by-desk_minute H))

minute-later : (later : List Entry) (G : History) (minute : ℕ) → desk_minute G ≡ Some minute → (x : ℕ) × (desk_minute (later ++ G) ≡ Some x) × (minute ≤ x)
minute-later [] G minute is = (minute, is, omega arith)
minute-later (e ∷ later) G minute is =
    let rest = minute-later later G minute is in
    let now : now_of (later ++ G) ≡ rest.0 = ap (λ o. unwrap_or o 0) rest.1 in
    (max e.effective (now_of (later ++ G)), refl, omega (arith, now, rest.2))

pub desk_minute-stays : (G H : History) (minute : ℕ) → IsPrefix G H → desk_minute G ≡ Some minute → (later : ℕ) × (desk_minute H ≡ Some later) × (minute ≤ later)
desk_minute-stays G H minute (more, is) at = let rest = minute-later more G minute at in (rest.0, ap desk_minute is ∙ rest.1, rest.2)

-- ---- prefixes

judged-before : (later : List Entry) (G : History) → IsJudged Two (later ++ G) → IsJudged Two G
judged-before [] G judged = judged
judged-before (e ∷ later) G (next, judged) = judged-before later G judged

pub judged-prefix : (G H : History) → IsPrefix G H → IsJudged Two H → IsJudged Two G
judged-prefix G H (later, is) judged = judged-before later G (subst (IsJudged Two) is judged)
