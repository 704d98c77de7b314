-- Accepted counts of mounted and of other reels.
use Rattle.desk_types.proofs.Common.{[], ◌++◌, ◌-◌, ◌||◌, ◌∙◌, ◌∷◌, ◌≡◌, accept, All, All-cons, All-head}
use Rattle.desk_types.proofs.Common.{All-nil, All-tail, AllByRecursion, ap, arith, Bool, command_refusal}
use Rattle.desk_types.proofs.Common.{counts_refusal, effective_minute, false, find, found_by, found_of}
use Rattle.desk_types.proofs.Common.{History, if◌then◌else◌, is_mounted, left_of, List, list_any}
use Rattle.desk_types.proofs.Common.{list_any-append, Name, None, option_map, option_map_or, picks_of}
use Rattle.desk_types.proofs.Common.{pieces_by, pieces_picked, refl, refusal_of, same, same-refl, same-sym}
use Rattle.desk_types.proofs.Common.{same-true, Some, sym, true, unwrap_or, ℕ}
use Rattle.desk_laws.proofs.Common.{Command, CountRow, CountsTaken, Stamped, Two}
use Rattle.desk_laws.proofs.{Accepted.command-accepted, Picks.countable, Picks.IsCountable}

-- ---- mounted reels

pub unmounted-rows : (H : History) (seen : List Name) (rows : List CountRow) (reel : Name) → counts_refusal Two H seen rows ≡ None → is_mounted H reel ≡ true
    → find (λ (row : CountRow). same row.reel reel) rows ≡ None
unmounted-rows H seen [] reel none mounted = refl
unmounted-rows H seen (row ∷ rows) reel none mounted =
    by (same row.reel reel) refl (unmounted-rows H (seen ++ row.reel ∷ []) rows reel (countable H seen row rows none).1 mounted)
  where
    by : (b : Bool) → same row.reel reel ≡ b → find (λ (r : CountRow). same r.reel reel) rows ≡ None
        → (if b then Some row else find (λ (r : CountRow). same r.reel reel) rows) ≡ None
    by true here rest = let no = sym mounted ∙ ap (is_mounted H) (sym (same-true row.reel reel here)) ∙ (countable H seen row rows none).0.not_mounted in cc
    by false here rest = rest

found-none : (H : History) (minute : ℕ) (command : Command) (reel : Name) → command_refusal Two H minute command ≡ None → is_mounted H reel ≡ true
    → found_by (left_of H reel) reel command ≡ 0
unfolding command_refusal
found-none H minute (CountsTaken rows) reel none mounted =
    ap (λ said. option_map_or (λ (row : CountRow). row.quantity - left_of H reel) said 0) (unmounted-rows H [] rows reel none mounted)
found-none H minute _ reel none mounted = refl

pub mounted-finds-none : (H : History) (s : Stamped) (reel : Name) → refusal_of Two H s ≡ None → is_mounted H reel ≡ true → found_of (accept H s) reel ≡ found_of H reel
unfolding found_of
mounted-finds-none H s reel none mounted =
    let nothing = found-none H (effective_minute H s.minute) s.command reel (command-accepted H s none) mounted in omega (arith, nothing)

-- ---- counted reels

absent-rows : (H : History) (seen : List Name) (rows : List CountRow) (reel : Name) → counts_refusal Two H seen rows ≡ None → list_any (same reel) seen ≡ true
    → AllByRecursion (λ (row : CountRow). same row.reel reel ≡ false) rows
absent-rows H seen [] reel none before = tt
absent-rows H seen (row ∷ rows) reel none before = (
  away (same row.reel reel) refl,
  absent-rows H (seen ++ row.reel ∷ []) rows reel (countable H seen row rows none).1
      (list_any-append (same reel) seen (row.reel ∷ []) ∙ ap (λ b. b || list_any (same reel) (row.reel ∷ [])) before),
)
  where
    away : (b : Bool) → same row.reel reel ≡ b → same row.reel reel ≡ false
    away true here = let one = same-true row.reel reel here in let once = (countable H seen row rows none).0.once in cc
    away false is = is

-- A search for the row's reel finds this row.
abbrev IsFoundIn : List CountRow → CountRow → Type 0
IsFoundIn rows row = find (λ (r : CountRow). same r.reel row.reel) rows ≡ Some row

rows-found : (H : History) (seen : List Name) (rows : List CountRow) → counts_refusal Two H seen rows ≡ None → All (IsFoundIn rows) rows
rows-found H seen [] none = All-nil (IsFoundIn [])
rows-found H seen (row ∷ rows) none =
    All-cons (IsFoundIn (row ∷ rows)) row rows (ap (λ b. if b then Some row else find (λ (r : CountRow). same r.reel row.reel) rows) (same-refl row.reel))
    (later rows (rows-found H (seen ++ row.reel ∷ []) rows both.1) (absent-rows H (seen ++ row.reel ∷ []) rows row.reel both.1 (
    list_any-append (same row.reel) seen (row.reel ∷ []) ∙ last (list_any (same row.reel) seen))))
  where
    both : IsCountable H seen row × (counts_refusal Two H (seen ++ row.reel ∷ []) rows ≡ None)
    both = countable H seen row rows none

    last : (b : Bool) → (b || (same row.reel row.reel || false)) ≡ true
    last true = refl
    last false = ap (λ c. c || false) (same-refl row.reel)

    later : (xs : List CountRow) → All (IsFoundIn rows) xs → AllByRecursion (λ (x : CountRow). same x.reel row.reel ≡ false) xs → All (IsFoundIn (row ∷ rows)) xs
    later [] found apart = All-nil (IsFoundIn (row ∷ rows))
    later (x ∷ xs) found (first, apart) =
        All-cons (IsFoundIn (row ∷ rows)) x xs
        (ap (λ b. if b then Some row else find (λ (r : CountRow). same r.reel x.reel) rows) (same-sym row.reel x.reel ∙ first) ∙ All-head (IsFoundIn rows) x xs found)
        (later xs (All-tail (IsFoundIn rows) x xs found) apart)

found-rows : (H : History) (minute : ℕ) (command : Command) (rows : List CountRow) → command_refusal Two H minute command ≡ None → command ≡ CountsTaken rows
    → All (IsFoundIn rows) rows
unfolding command_refusal
found-rows H minute command rows none is = rows-found H [] rows (sym (ap (command_refusal Two H minute) is) ∙ none)

left-told : (H : History) (s : Stamped) (reel : Name) (n : ℕ) → pieces_by reel s.command ≡ Some n → left_of (accept H s) reel ≡ n
unfolding left_of
left-told H s reel n told = ap (λ o. unwrap_or o (left_of H reel - pieces_picked (picks_of H s.command) reel)) told

pub counts-exact : (H : History) (s : Stamped) (rows : List CountRow) → refusal_of Two H s ≡ None → s.command ≡ CountsTaken rows
    → All (λ (row : CountRow). left_of (accept H s) row.reel ≡ row.quantity) rows
counts-exact H s rows none is k d inside = each _ (found-rows H (effective_minute H s.minute) s.command rows (command-accepted H s none) is k d inside)
  where
    each : (row : CountRow) → find (λ (r : CountRow). same r.reel row.reel) rows ≡ Some row → left_of (accept H s) row.reel ≡ row.quantity
    each row found = left-told H s row.reel row.quantity (ap (pieces_by row.reel) is ∙ ap (option_map (λ (r : CountRow). r.quantity)) found)
