-- The picks of commands: their reels and their number.
use Rattle.desk_types.proofs.Common.{[], ◌*◌, ◌++◌, ◌+◌, ◌-◌, ◌^◌, ◌∷◌, ◌≡◌, ◌≤◌, AllByRecursion, ap, arith}
use Rattle.desk_types.proofs.Common.{Bench, bench_of, Bool, count_picks, false, History, if◌then◌else◌}
use Rattle.desk_types.proofs.Common.{install_picks, is_some, IsJudged, left_of, length, List, lt-ltb}
use Rattle.desk_types.proofs.Common.{ltb-true, min, Name, nat_lt, None, Option, option_and_then, option_map}
use Rattle.desk_types.proofs.Common.{option_to_list, pick_for, picks_of, pieces_of, pieces_off, pieces_picked}
use Rattle.desk_types.proofs.Common.{receipt_of, refl, scrap_picks, Some, sum_by-append, tape_of, true, ℕ}
use Rattle.desk_laws.proofs.Common.{Command, Counted, CountRow, CountsTaken, GREATEST_QUANTITY}
use Rattle.desk_laws.proofs.Common.{MaterialsInstalled, MaterialsScrapped, Pick, Placed, Purpose, Receipt}
use Rattle.desk_laws.proofs.Common.{Rejected, Two}
use Rattle.desk_laws.proofs.{Balance.unreceived-empty, Picks.find-passes, Ranges.left-range}
use Rattle.desk_laws.proofs.{WholeInstalls.pieces-off}
use Rattle.judging.specs.Facts.{IsKnownReel}
use Rattle.std.specs.List.{find}

-- ---- reels

-- Each pick is of a reel with pieces.
abbrev HaveSome : (Name → ℕ) → List Pick → Type 0
HaveSome pieces picks = AllByRecursion (λ (p : Pick). nat_lt 0 (pieces p.reel) ≡ true) picks

some-append : (pieces : Name → ℕ) (before after : List Pick) → HaveSome pieces before → HaveSome pieces after → HaveSome pieces (before ++ after)
some-append pieces [] after first second = second
some-append pieces (p ∷ ps) after (some, first) second = (some, some-append pieces ps after first second)

off-some : (pieces : Name → ℕ) (reel : Name) (n : ℕ) (purpose : Purpose) → n ≤ pieces reel → HaveSome pieces (pieces_off reel n purpose)
off-some pieces reel n purpose few = by (nat_lt 0 n) refl
  where
    by : (b : Bool) → nat_lt 0 n ≡ b
        → HaveSome pieces (if◌then◌else◌ {A = List Pick} b (record { reel = reel; quantity = n; purpose = purpose } ∷ []) [])
    by true is = let some = ltb-true 0 n is in (lt-ltb 0 (pieces reel) (omega (arith, some, few)), tt)
    by false is = tt

pick-some : (bench : Bench) (before : List Pick) (d : Name)
    → HaveSome bench.pieces (option_to_list (pick_for bench before d))
pick-some bench before d = by (bench.slot_of d)
  where
    test : Name → Bool
    test reel = nat_lt (pieces_picked before reel) (bench.pieces reel)

    pick : Name → Name → Pick
    pick slot reel = record { reel = reel; quantity = 1; purpose = Placed bench.board d bench.machine slot }

    found : (slot : Name) (o : Option Name) → find (λ reel. nat_lt (pieces_picked before reel) (bench.pieces reel)) (bench.tape slot) ≡ o
        → HaveSome bench.pieces (option_to_list (option_map (λ reel. record { reel = reel; quantity = 1; purpose = Placed bench.board d bench.machine slot }) o))
    found slot None is = tt
    found slot (Some reel) is =
        let more = ltb-true (pieces_picked before reel) (bench.pieces reel) (find-passes (λ r. nat_lt (pieces_picked before r) (bench.pieces r)) (bench.tape slot) reel is) in
        (lt-ltb 0 (bench.pieces reel) (omega (arith, more)), tt)

    by : (o : Option Name) → HaveSome bench.pieces (option_to_list (option_and_then (λ slot. option_map (λ reel. record { reel = reel; quantity = 1; purpose = Placed bench.board d bench.machine slot })
        (find (λ reel. nat_lt (pieces_picked before reel) (bench.pieces reel)) (bench.tape slot))) o))
    by None = tt
    by (Some slot) = found slot (find (λ reel. nat_lt (pieces_picked before reel) (bench.pieces reel)) (bench.tape slot)) refl

install-some : (bench : Bench) (before : List Pick) (ds : List Name)
    → HaveSome bench.pieces before → HaveSome bench.pieces (install_picks bench before ds)
unfolding install_picks
install-some bench before [] some = some
install-some bench before (d ∷ ds) some =
    install-some bench (before ++ option_to_list (pick_for bench before d)) ds
    (some-append bench.pieces before _ some (pick-some bench before d))

scrap-some : (pieces : Name → ℕ) (purpose : Purpose) (tape : List Name) (n : ℕ) → HaveSome pieces (scrap_picks pieces purpose tape n)
scrap-some pieces purpose [] n = tt
scrap-some pieces purpose (r ∷ rs) n =
    some-append pieces (pieces_off r (min n (pieces r)) purpose) _ (off-some pieces r (min n (pieces r)) purpose (omega arith)) (scrap-some pieces purpose rs (n - pieces r))

count-some : (pieces : Name → ℕ) (rows : List CountRow) → HaveSome pieces (count_picks pieces rows)
count-some pieces [] = tt
count-some pieces (row ∷ rows) =
    some-append pieces (pieces_off row.reel (pieces row.reel - row.quantity) Counted) _
    (off-some pieces row.reel (pieces row.reel - row.quantity) Counted (omega arith)) (count-some pieces rows)

picks-some : (H : History) (command : Command) → HaveSome (left_of H) (picks_of H command)
picks-some H (MaterialsInstalled machine board ds) = install-some (bench_of H machine board) [] ds tt
picks-some H (MaterialsScrapped machine slot n) = scrap-some (left_of H) (Rejected machine slot) (tape_of H machine slot) n
picks-some H (CountsTaken rows) = count-some (left_of H) rows
picks-some H _ = tt

some-known : (H : History) (reel : Name) → IsJudged Two H → nat_lt 0 (left_of H reel) ≡ true → IsKnownReel H reel
some-known H reel judged some = by (receipt_of H reel) refl
  where
    by : (o : Option Receipt) → receipt_of H reel ≡ o → is_some (receipt_of H reel) ≡ true
    by (Some receipt) is = ap is_some is
    by None is = let none = ap (nat_lt 0) (unreceived-empty H reel judged is) in cc

known : (H : History) (picks : List Pick) → IsJudged Two H → HaveSome (left_of H) picks → AllByRecursion (λ (p : Pick). IsKnownReel H p.reel) picks
known H [] judged all = tt
known H (p ∷ ps) judged (some, all) = (some-known H p.reel judged some, known H ps judged all)

pub picks-known : (H : History) (command : Command) → IsJudged Two H → AllByRecursion (λ (p : Pick). IsKnownReel H p.reel) (picks_of H command)
picks-known H command judged = known H (picks_of H command) judged (picks-some H command)

-- ---- number

pieces-append : (before after : List Pick) → pieces_of (before ++ after) ≡ pieces_of before + pieces_of after
pieces-append before after = sum_by-append (λ (p : Pick). p.quantity) before after

scrap-within : (pieces : Name → ℕ) (purpose : Purpose) (tape : List Name) (n : ℕ) → pieces_of (scrap_picks pieces purpose tape n) ≤ n
scrap-within pieces purpose [] n = omega arith
scrap-within pieces purpose (r ∷ rs) n =
    let both = pieces-append (pieces_off r (min n (pieces r)) purpose) (scrap_picks pieces purpose rs (n - pieces r)) in
    let first = pieces-off r (min n (pieces r)) purpose in
    let rest = scrap-within pieces purpose rs (n - pieces r) in
    omega (arith, both, first, rest)

count-within : (pieces : Name → ℕ) (rows : List CountRow) → ((r : Name) → pieces r ≤ GREATEST_QUANTITY)
    → pieces_of (count_picks pieces rows) ≤ length rows * GREATEST_QUANTITY
count-within pieces [] few = omega arith
count-within pieces (row ∷ rows) few =
    let both = pieces-append (pieces_off row.reel (pieces row.reel - row.quantity) Counted) (count_picks pieces rows) in
    let first = pieces-off row.reel (pieces row.reel - row.quantity) Counted in
    let rest = count-within pieces rows few in
    omega (arith, both, first, rest, few row.reel)

-- The greatest 64-bit number.
abbrev most : ℕ
most = 2 ^ 64 - 1

pub scrap-fits : (H : History) (machine slot : Name) (n : ℕ) → n ≤ GREATEST_QUANTITY
    → min (pieces_of (picks_of H (MaterialsScrapped machine slot n))) most ≡ pieces_of (picks_of H (MaterialsScrapped machine slot n))
scrap-fits H machine slot n range =
    let few = scrap-within (left_of H) (Rejected machine slot) (tape_of H machine slot) n in omega (arith, few, range)

pub count-fits : (H : History) (rows : List CountRow) → IsJudged Two H → length rows ≤ 5000
    → min (pieces_of (picks_of H (CountsTaken rows))) most ≡ pieces_of (picks_of H (CountsTaken rows))
count-fits H rows judged range =
    let few = count-within (left_of H) rows (λ r. left-range H r judged) in omega (arith, few, range)
