-- The pieces that a command takes off a reel.
use Rattle.desk_types.proofs.Common.{[], ◌&&◌, ◌++◌, ◌+◌, ◌-◌, ◌==◌, ◌||◌, ◌∙◌, ◌∷◌, ◌≡◌, ◌≤◌, AllByRecursion}
use Rattle.desk_types.proofs.Common.{ap, arith, Bench, Bool, count_picks, counts_refusal, false, find}
use Rattle.desk_types.proofs.Common.{first_refusal, found_by, History, if◌then◌else◌, install_picks}
use Rattle.desk_types.proofs.Common.{is_mounted, is_none, IsDistinct, left_of, List, list_any}
use Rattle.desk_types.proofs.Common.{list_any-append, ltb-false, ltb-true, min, Name, nat_lt, None, Option}
use Rattle.desk_types.proofs.Common.{option_and_then, option_map, option_map_or, option_to_list, pick_for}
use Rattle.desk_types.proofs.Common.{pieces_off, pieces_picked, receipt_of, refl, same, same-refl, same-sym}
use Rattle.desk_types.proofs.Common.{same-true, scrap_picks, Some, subst, sum_by-append, sym, true, unwrap_or}
use Rattle.desk_types.proofs.Common.{zero-add, ℕ}
use Rattle.desk_laws.proofs.Common.{CountAbove, Counted, CountRow, CountsTaken, Pick, Placed, Purpose}
use Rattle.desk_laws.proofs.Common.{ReelMounted, ReelTwice, Refusal, Two, UnknownReel}
use Rattle.desk_laws.proofs.{Accepted.none-holds, Judgements.or-none}
use Rattle.std.proofs.lemmas.Map.Keys.{IsDistinct-head, IsDistinct-tail}

-- ---- concatenated picks

pub pieces_picked-append : (before after : List Pick) (reel : Name) → pieces_picked (before ++ after) reel ≡ pieces_picked before reel + pieces_picked after reel
pieces_picked-append before after reel = sum_by-append (λ (p : Pick). if same p.reel reel then p.quantity else 0) before after

pub pieces_picked-off : (r : Name) (n : ℕ) (purpose : Purpose) (reel : Name) → pieces_picked (pieces_off r n purpose) reel ≡ if same r reel then n else 0
pieces_picked-off r n purpose reel = by (nat_lt 0 n) refl
  where
    empty : (here : Bool) → n ≡ 0 → 0 ≡ if here then n else 0
    empty true is = sym is
    empty false is = refl

    by : (some : Bool) → nat_lt 0 n ≡ some
        → pieces_picked (if◌then◌else◌ {A = List Pick} some (record { reel = r; quantity = n; purpose = purpose } ∷ []) []) reel ≡ if same r reel then n else 0
    by true is = zero-add _
    by false is = let none = ltb-false 0 n is in empty (same r reel) (omega (arith, none))

pub all-off : (P : Pick → Type 0) (r : Name) (n : ℕ) (purpose : Purpose) → P (record { reel = r; quantity = n; purpose = purpose }) → AllByRecursion P (pieces_off r n purpose)
all-off P r n purpose holds = by (nat_lt 0 n)
  where
    by : (b : Bool) → AllByRecursion P (if◌then◌else◌ {A = List Pick} b (record { reel = r; quantity = n; purpose = purpose } ∷ []) [])
    by true = (holds, tt)
    by false = tt

pub find-passes : {X : Type 0} (p : X → Bool) (xs : List X) (x : X) → find p xs ≡ Some x → p x ≡ true
find-passes p [] x is = cc
find-passes p (y ∷ ys) x is = by (p y) refl is (find-passes p ys x)
  where
    by : (b : Bool) → p y ≡ b → (if b then Some y else find p ys) ≡ Some x → (find p ys ≡ Some x → p x ≡ true) → p x ≡ true
    by true passes is rest = cc
    by false fails is rest = rest is

-- ---- installs

one-within : (pieces : Name → ℕ) (purpose : Purpose) (before : List Pick) (reel : Name) (found : Option Name)
    → ((r : Name) → found ≡ Some r → nat_lt (pieces_picked before r) (pieces r) ≡ true) → pieces_picked before reel ≤ pieces reel
    → pieces_picked (before ++ option_to_list (option_map (λ r. record { reel = r; quantity = 1; purpose = purpose }) found)) reel ≤ pieces reel
one-within pieces purpose before reel None has within = let all = pieces_picked-append before [] reel in omega (arith, all, within)
one-within pieces purpose before reel (Some r) has within = by (same r reel) refl (pieces_picked-append before (record { reel = r; quantity = 1; purpose = purpose } ∷ []) reel)
  where
    by : (b : Bool) → same r reel ≡ b
        → pieces_picked (before ++ record { reel = r; quantity = 1; purpose = purpose } ∷ []) reel ≡ pieces_picked before reel + (0 + (if b then 1 else 0))
        → pieces_picked (before ++ record { reel = r; quantity = 1; purpose = purpose } ∷ []) reel ≤ pieces reel
    by true here all =
        let less = ltb-true _ _ (ap (λ x. nat_lt (pieces_picked before x) (pieces x)) (sym (same-true r reel here)) ∙ has r refl) in omega (arith, all, less)
    by false away all = omega (arith, all, within)

picks-one : (bench : Bench) (before : List Pick) (d reel : Name)
    → pieces_picked before reel ≤ bench.pieces reel → pieces_picked (before ++ option_to_list (pick_for bench before d)) reel ≤ bench.pieces reel
picks-one bench before d reel within = by (bench.slot_of d)
  where
    by : (slot : Option Name)
        → pieces_picked (before ++ option_to_list (option_and_then (λ s. option_map (λ r. record { reel = r; quantity = 1; purpose = Placed bench.board d bench.machine s })
        (find (λ r. nat_lt (pieces_picked before r) (bench.pieces r)) (bench.tape s))) slot)) reel ≤ bench.pieces reel
    by None = let all = pieces_picked-append before [] reel in omega (arith, all, within)
    by (Some s) =
        one-within bench.pieces (Placed bench.board d bench.machine s) before reel (find (λ r. nat_lt (pieces_picked before r) (bench.pieces r)) (bench.tape s))
        (λ r found. find-passes (λ x. nat_lt (pieces_picked before x) (bench.pieces x)) (bench.tape s) r found) within

pub install-within : (bench : Bench) (before : List Pick) (ds : List Name) (reel : Name)
    → pieces_picked before reel ≤ bench.pieces reel → pieces_picked (install_picks bench before ds) reel ≤ bench.pieces reel
unfolding install_picks
install-within bench before [] reel within = within
install-within bench before (d ∷ ds) reel within =
    install-within bench (before ++ option_to_list (pick_for bench before d)) ds reel (picks-one bench before d reel within)

-- ---- scraps

scrap-absent : (pieces : Name → ℕ) (purpose : Purpose) (reels : List Name) (n : ℕ) (reel : Name) → AllByRecursion (λ y. same reel y ≡ false) reels
    → pieces_picked (scrap_picks pieces purpose reels n) reel ≡ 0
scrap-absent pieces purpose [] n reel absent = refl
scrap-absent pieces purpose (r ∷ rs) n reel (differs, absent) =
    pieces_picked-append (pieces_off r (min n (pieces r)) purpose) (scrap_picks pieces purpose rs (n - pieces r)) reel
    ∙ ap (λ k. k + pieces_picked (scrap_picks pieces purpose rs (n - pieces r)) reel) (pieces_picked-off r (min n (pieces r)) purpose reel)
    ∙ ap (λ b. (if b then min n (pieces r) else 0) + pieces_picked (scrap_picks pieces purpose rs (n - pieces r)) reel) (same-sym r reel ∙ differs)
    ∙ zero-add (pieces_picked (scrap_picks pieces purpose rs (n - pieces r)) reel)
    ∙ scrap-absent pieces purpose rs (n - pieces r) reel absent

pub scrap-within : (pieces : Name → ℕ) (purpose : Purpose) (reels : List Name) (n : ℕ) (reel : Name) → IsDistinct same reels
    → pieces_picked (scrap_picks pieces purpose reels n) reel ≤ pieces reel
scrap-within pieces purpose [] n reel distinct = omega arith
scrap-within pieces purpose (r ∷ rs) n reel distinct = by (same r reel) refl (both ∙ ap (λ k. k + rest) (pieces_picked-off r (min n (pieces r)) purpose reel)) (scrap-within pieces purpose rs (n - pieces r) reel (IsDistinct-tail same r rs distinct))
  where
    rest : ℕ
    rest = pieces_picked (scrap_picks pieces purpose rs (n - pieces r)) reel

    both : pieces_picked (scrap_picks pieces purpose (r ∷ rs) n) reel ≡ pieces_picked (pieces_off r (min n (pieces r)) purpose) reel + rest
    both = pieces_picked-append (pieces_off r (min n (pieces r)) purpose) (scrap_picks pieces purpose rs (n - pieces r)) reel

    by : (b : Bool) → same r reel ≡ b → pieces_picked (scrap_picks pieces purpose (r ∷ rs) n) reel ≡ (if b then min n (pieces r) else 0) + rest → rest ≤ pieces reel
        → pieces_picked (scrap_picks pieces purpose (r ∷ rs) n) reel ≤ pieces reel
    by true here all few_after =
        let one = same-true r reel here in
        let none : rest ≡ 0 = scrap-absent pieces purpose rs (n - pieces r) reel (subst (λ x. AllByRecursion (λ y. same x y ≡ false) rs) one (IsDistinct-head same r rs distinct)) in
        let few : min n (pieces r) ≤ pieces reel = subst (λ x. min n (pieces r) ≤ pieces x) one (omega arith) in
        omega (arith, all, none, few)
    by false away all few_after = omega (arith, all, few_after)

-- ---- counts

-- The tests of one row of a count.
pub record IsCountable (H : History) (seen : List Name) (row : CountRow) : Type 0 where
  pub received : is_none (receipt_of H row.reel) ≡ false
  pub once : list_any (same row.reel) seen ≡ false
  pub not_mounted : is_mounted H row.reel ≡ false
  pub spent : ((left_of H row.reel == 0) && nat_lt 0 row.quantity) ≡ false

pub countable : (H : History) (seen : List Name) (row : CountRow) (rows : List CountRow) → counts_refusal Two H seen (row ∷ rows) ≡ None
    → IsCountable H seen row × (counts_refusal Two H (seen ++ row.reel ∷ []) rows ≡ None)
countable H seen row rows none =
    let both = or-none (first_refusal tests) (counts_refusal Two H (seen ++ row.reel ∷ []) rows) none in
    let all = none-holds tests both.0 in
    (record { received = all.0; once = all.1.0; not_mounted = all.1.1.0; spent = all.1.1.1.0 }, both.1)
  where
    tests : List (Bool × Refusal)
    tests =
        (is_none (receipt_of H row.reel), UnknownReel row.reel)
        ∷ (list_any (same row.reel) seen, ReelTwice row.reel)
        ∷ (is_mounted H row.reel, ReelMounted row.reel)
        ∷ ((left_of H row.reel == 0) && nat_lt 0 row.quantity, CountAbove row.reel)
        ∷ []

pub count-absent : (H : History) (pieces : Name → ℕ) (seen : List Name) (rows : List CountRow) (reel : Name) → counts_refusal Two H seen rows ≡ None
    → list_any (same reel) seen ≡ true → pieces_picked (count_picks pieces rows) reel ≡ 0
count-absent H pieces seen [] reel none before = refl
count-absent H pieces seen (row ∷ rows) reel none before =
    pieces_picked-append (pieces_off row.reel (pieces row.reel - row.quantity) Counted) (count_picks pieces rows) reel
    ∙ ap (λ k. k + pieces_picked (count_picks pieces rows) reel) (pieces_picked-off row.reel (pieces row.reel - row.quantity) Counted reel)
    ∙ ap (λ b. (if b then pieces row.reel - row.quantity else 0) + pieces_picked (count_picks pieces rows) reel) (away (same row.reel reel) refl)
    ∙ zero-add (pieces_picked (count_picks pieces rows) reel)
    ∙ count-absent H pieces (seen ++ row.reel ∷ []) rows reel (countable H seen row rows none).1
    (list_any-append (same reel) seen (row.reel ∷ []) ∙ ap (λ b. b || list_any (same reel) (row.reel ∷ [])) before)
  where
    away : (b : Bool) → same row.reel reel ≡ b → same row.reel reel ≡ false
    away true here = let one = same-true row.reel reel here in let once = (countable H seen row rows none).0.once in cc
    away false is = is

-- A count takes at most the remaining pieces of a reel, leaves and finds what its row says, and
-- finds nothing on a spent reel.
pub record IsCounted (H : History) (rows : List CountRow) (reel : Name) : Type 0 where
  pub within : pieces_picked (count_picks (left_of H) rows) reel ≤ left_of H reel
  pub told : unwrap_or (option_map (λ (row : CountRow). row.quantity) (find (λ row. same row.reel reel) rows)) (left_of H reel - pieces_picked (count_picks (left_of H) rows) reel)
      ≡ left_of H reel - pieces_picked (count_picks (left_of H) rows) reel + found_by (left_of H reel) reel (CountsTaken rows)
  pub spent : left_of H reel ≡ 0 → found_by (left_of H reel) reel (CountsTaken rows) ≡ 0

pub and-nothing : (n : ℕ) → n ≡ n + 0
and-nothing n = omega arith

pub spent-none : (left counted : ℕ) → ((left == 0) && nat_lt 0 counted) ≡ false → left ≡ 0 → counted ≡ 0
spent-none left counted test none = let few = ltb-false 0 counted (sym (ap (λ n. (n == 0) && nat_lt 0 counted) none) ∙ test) in omega (arith, few)

pub counted : (H : History) (seen : List Name) (rows : List CountRow) (reel : Name) → counts_refusal Two H seen rows ≡ None → IsCounted H rows reel
counted H seen [] reel none = record { within = omega arith; told = and-nothing _; spent = λ empty. refl }
counted H seen (row ∷ rows) reel none = by (same row.reel reel) refl (both ∙ ap (λ k. k + rest) (pieces_picked-off row.reel (left_of H row.reel - row.quantity) Counted reel))
    (counted H (seen ++ row.reel ∷ []) rows reel (countable H seen row rows none).1)
  where
    rest : ℕ
    rest = pieces_picked (count_picks (left_of H) rows) reel

    whole : ℕ
    whole = pieces_picked (count_picks (left_of H) (row ∷ rows)) reel

    later : Option CountRow
    later = find (λ r. same r.reel reel) rows

    found : Option CountRow → ℕ
    found said = option_map_or (λ (r : CountRow). r.quantity - left_of H reel) said 0

    both : whole ≡ pieces_picked (pieces_off row.reel (left_of H row.reel - row.quantity) Counted) reel + rest
    both = pieces_picked-append (pieces_off row.reel (left_of H row.reel - row.quantity) Counted) (count_picks (left_of H) rows) reel

    by : (b : Bool) → same row.reel reel ≡ b → whole ≡ (if b then left_of H row.reel - row.quantity else 0) + rest → IsCounted H rows reel → IsCounted H (row ∷ rows) reel
    by true here all others =
        let first = countable H seen row rows none in
        let one = same-true row.reel reel here in
        let none_after : rest ≡ 0 = count-absent H (left_of H) (seen ++ row.reel ∷ []) rows reel first.1
        (list_any-append (same reel) seen (row.reel ∷ []) ∙ ap (λ x. list_any (same x) seen || (same x row.reel || false)) (sym one) ∙ last (list_any (same row.reel) seen)) in
        let taken : whole ≡ left_of H reel - row.quantity + rest = all ∙ ap (λ x. left_of H x - row.quantity + rest) one in
        record {
          within = omega (arith, taken, none_after);
          told = ap (λ b. unwrap_or (option_map (λ (r : CountRow). r.quantity) (if b then Some row else later)) (left_of H reel - whole)) here
              ∙ exact taken none_after
              ∙ ap (λ b. left_of H reel - whole + found (if b then Some row else later)) (sym here);
          spent = λ empty. ap (λ b. found (if b then Some row else later)) here
              ∙ (let nothing = spent-none (left_of H reel) row.quantity (subst (λ x. ((left_of H x == 0) && nat_lt 0 row.quantity) ≡ false) one first.0.spent) empty in omega (arith, nothing));
        }
      where
        last : (b : Bool) → (b || (same row.reel row.reel || false)) ≡ true
        last true = refl
        last false = ap (λ c. c || false) (same-refl row.reel)

        exact : whole ≡ left_of H reel - row.quantity + rest → rest ≡ 0 → row.quantity ≡ left_of H reel - whole + (row.quantity - left_of H reel)
        exact taken none_after = omega (arith, taken, none_after)
    by false away all others =
        record {
          within = let few = others.within in omega (arith, all, few);
          told = ap (λ b. unwrap_or (option_map (λ (r : CountRow). r.quantity) (if b then Some row else later)) (left_of H reel - whole)) away
              ∙ ap (λ k. unwrap_or (option_map (λ (r : CountRow). r.quantity) later) (left_of H reel - k)) (all ∙ zero-add rest)
              ∙ others.told
              ∙ ap (λ k. left_of H reel - k + found later) (sym (all ∙ zero-add rest))
              ∙ ap (λ b. left_of H reel - whole + found (if b then Some row else later)) (sym away);
          spent = λ empty. ap (λ b. found (if b then Some row else later)) away ∙ others.spent empty;
        }
