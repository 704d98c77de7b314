-- The difference between the rules: under rules One, no count exceeds the remaining pieces.
use Rattle.desk_types.proofs.Common.{[], ◌++◌, ◌-◌, ◌∷◌, ◌≡◌, ◌≢◌, ap, arith, Bool, command_refusal}
use Rattle.desk_types.proofs.Common.{counts_refusal, effective_minute, false, find, found_by, found_of}
use Rattle.desk_types.proofs.Common.{History, if◌then◌else◌, is_mounted, is_none, is_too_far_ahead, IsJudged}
use Rattle.desk_types.proofs.Common.{left_of, List, list_any, ltb-false, Name, nat_lt, None, option_map_or}
use Rattle.desk_types.proofs.Common.{receipt_of, refl, refusal_of, same, same-true, Some, true, ℕ}
use Rattle.desk_laws.proofs.Common.{Command, CountAbove, CountRow, CountsTaken, ReelMounted, ReelTwice}
use Rattle.desk_laws.proofs.Common.{Refusal, Stamped, TooFarAhead, Two, UnknownReel}
use Rattle.desk_laws.proofs.{Accepted.none-holds, Judgements.or-none}
use Rattle.desk_types.specs.{Refusals.count_refusal, declared.rules.Rules.TheVariants.One}

-- ---- found pieces

row-within : (H : History) (seen : List Name) (row : CountRow) → count_refusal One H seen row ≡ None → nat_lt (left_of H row.reel) row.quantity ≡ false
row-within H seen row none = (none-holds tests none).1.1.1.0
  where
    tests : List (Bool × Refusal)
    tests =
        (is_none (receipt_of H row.reel), UnknownReel row.reel)
        ∷ (list_any (same row.reel) seen, ReelTwice row.reel)
        ∷ (is_mounted H row.reel, ReelMounted row.reel)
        ∷ (nat_lt (left_of H row.reel) row.quantity, CountAbove row.reel)
        ∷ []

rows-find-none : (H : History) (seen : List Name) (rows : List CountRow) (reel : Name) → counts_refusal One H seen rows ≡ None
    → option_map_or (λ (row : CountRow). row.quantity - left_of H reel) (find (λ (r : CountRow). same r.reel reel) rows) 0 ≡ 0
rows-find-none H seen [] reel none = refl
rows-find-none H seen (row ∷ rows) reel none =
    let both = or-none (count_refusal One H seen row) (counts_refusal One H (seen ++ row.reel ∷ []) rows) none in
    by (same row.reel reel) refl (row-within H seen row both.0) (rows-find-none H (seen ++ row.reel ∷ []) rows reel both.1)
  where
    by : (b : Bool) → same row.reel reel ≡ b → nat_lt (left_of H row.reel) row.quantity ≡ false
        → option_map_or (λ (row : CountRow). row.quantity - left_of H reel) (find (λ (r : CountRow). same r.reel reel) rows) 0 ≡ 0
        → option_map_or (λ (row : CountRow). row.quantity - left_of H reel) (if b then Some row else find (λ (r : CountRow). same r.reel reel) rows) 0 ≡ 0
    by true here low rest =
        let within = ltb-false (left_of H row.reel) row.quantity low in
        let one : left_of H row.reel ≡ left_of H reel = ap (left_of H) (same-true row.reel reel here) in
        omega (arith, within, one)
    by false here low rest = rest

command-finds-none : (H : History) (minute : ℕ) (command : Command) (reel : Name) → command_refusal One H minute command ≡ None
    → found_by (left_of H reel) reel command ≡ 0
unfolding command_refusal
command-finds-none H minute (CountsTaken rows) reel none = rows-find-none H [] rows reel none
command-finds-none H minute _ reel none = refl

accepted-by-one : (H : History) (s : Stamped) → refusal_of One H s ≡ None → command_refusal One H (effective_minute H s.minute) s.command ≡ None
unfolding refusal_of
accepted-by-one H s none = by (is_too_far_ahead H s) none
  where
    by : (far : Bool) → (if far then Some TooFarAhead else command_refusal One H (effective_minute H s.minute) s.command) ≡ None
        → command_refusal One H (effective_minute H s.minute) s.command ≡ None
    by true none = cc
    by false none = none

-- Counts find nothing under rules One.
pub nothing-found : (H : History) (reel : Name) → IsJudged One H → found_of H reel ≡ 0
unfolding found_of
nothing-found [] reel judged = refl
nothing-found (e ∷ H) reel (next, judged) =
    let before = nothing-found H reel judged in
    let here = command-finds-none H (effective_minute H e.stamped.minute) e.stamped.command reel (accepted-by-one H e.stamped next.accepted) in
    omega (arith, before, here)

-- ---- refusals

commands-agree : (H : History) (minute : ℕ) (command : Command) → ((counts : List CountRow) → command ≢ CountsTaken counts)
    → command_refusal One H minute command ≡ command_refusal Two H minute command
unfolding command_refusal
commands-agree H minute (CountsTaken counts) other = absurd (other counts refl)
commands-agree H minute _ other = refl

pub refusals-agree : (H : History) (s : Stamped) → ((counts : List CountRow) → s.command ≢ CountsTaken counts) → refusal_of One H s ≡ refusal_of Two H s
unfolding refusal_of
refusals-agree H s other = ap (λ refusal. if is_too_far_ahead H s then Some TooFarAhead else refusal) (commands-agree H (effective_minute H s.minute) s.command other)
