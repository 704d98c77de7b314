-- Older files of a chain end before a file that moved on.
use Rattle.desk_types.proofs.Common.{[], ◌++◌, ◌+◌, ◌∷◌, ◌≡◌, ◌≤◌, All, All-from_recursion, AllByRecursion}
use Rattle.desk_types.proofs.Common.{ap, arith, found_of, History, IsPrefix, le-max_right, left_of, List, max}
use Rattle.desk_types.proofs.Common.{Name, now_of, placed_of, scrapped_of, subst, sum_by-cons, sym, unwrap_or}
use Rattle.desk_types.proofs.Common.{ℕ}
use Rattle.desk_laws.proofs.Common.{Carries, DeskFile, Entry, IsChain, placed_over, received_over}
use Rattle.desk_laws.proofs.Common.{scrapped_over}
use Rattle.chain_check.specs.Counted.{Moves}
use Rattle.desk_laws.{proofs.ChainPieces.balance-over, specs.Chain.new_in}

now-later : (later : List Entry) (G : History) → now_of G ≤ now_of (later ++ G)
now-later [] G = omega arith
now-later (e ∷ later) G =
    let rest = now-later later G in
    let step : now_of (later ++ G) ≤ max e.effective (now_of (later ++ G)) = le-max_right e.effective (now_of (later ++ G)) in
    omega (arith, rest, step)

pub now-prefix : (G H : History) → IsPrefix G H → now_of G ≤ now_of H
now-prefix G H (later, is) = subst (λ (X : History). now_of G ≤ now_of X) (sym is) (now-later later G)

abbrev EndsBy : ℕ → DeskFile → Type 0
EndsBy minute other = now_of other.whole ≤ minute

lower : (older : List DeskFile) (m n : ℕ) → m ≤ n → AllByRecursion (EndsBy m) older → AllByRecursion (EndsBy n) older
lower [] m n le all = tt
lower (f ∷ older) m n le all = (low, lower older m n le all.1)
  where
    low : now_of f.whole ≤ n
    low = let first : now_of f.whole ≤ m = all.0 in omega (arith, first, le)

older-end : (before : DeskFile) (older : List DeskFile) → IsChain (before ∷ older) → AllByRecursion (EndsBy (now_of before.begun)) older
older-end before [] chain = tt
older-end before (next ∷ older) (judged, begins, follows, rest) =
    let same : now_of next.whole ≡ now_of before.begun = ap (λ o. unwrap_or o 0) follows.alike.minute in
    let low : now_of next.begun ≤ now_of next.whole = now-prefix next.begun next.whole rest.1 in
    let first : now_of next.whole ≤ now_of before.begun = omega (arith, same) in
    (first, lower older (now_of next.begun) (now_of before.begun) (omega (arith, same, low)) (older-end next older rest))

pub no-gap : (file before : DeskFile) (older : List DeskFile) → IsChain (file ∷ before ∷ older) → Moves before
    → All (λ (other : DeskFile). Carries other.whole file.begun → ⊥) older
no-gap file before older (judged, begins, follows, rest) moves = All-from_recursion (λ (other : DeskFile). Carries other.whole file.begun → ⊥) older (each older (older-end before older rest))
  where
    now : now_of before.whole ≡ now_of file.begun
    now = ap (λ o. unwrap_or o 0) follows.alike.minute

    each : (xs : List DeskFile) → AllByRecursion (EndsBy (now_of before.begun)) xs → AllByRecursion (λ (other : DeskFile). Carries other.whole file.begun → ⊥) xs
    each [] all = tt
    each (other ∷ xs) all = (
      λ carries.
          let first : now_of other.whole ≤ now_of before.begun = all.0 in
          let same : now_of other.whole ≡ now_of file.begun = ap (λ o. unwrap_or o 0) carries.alike.minute in
          omega (arith, first, same, now, moves),
      each xs all.1,
    )

-- What a file placed or scrapped that could be left out, it received or found itself.
pub used-up : (file between : DeskFile) (older : List DeskFile) (reel : Name) → IsChain (file ∷ between ∷ older) → IsChain (file ∷ older)
    → new_in between reel + found_of between.whole reel ≡ placed_of between.whole reel + scrapped_of between.whole reel
used-up file between older reel chain shorter =
    let r : DeskFile → ℕ = λ f. new_in f reel + found_of f.whole reel in
    let p : DeskFile → ℕ = λ f. placed_of f.whole reel in
    let s : DeskFile → ℕ = λ f. scrapped_of f.whole reel in
    let all : received_over (file ∷ between ∷ older) reel ≡ placed_over (file ∷ between ∷ older) reel + scrapped_over (file ∷ between ∷ older) reel + left_of file.whole reel = balance-over (file ∷ between ∷ older) reel chain in
    let less : received_over (file ∷ older) reel ≡ placed_over (file ∷ older) reel + scrapped_over (file ∷ older) reel + left_of file.whole reel = balance-over (file ∷ older) reel shorter in
    let r1 = sum_by-cons r file (between ∷ older) in
    let r2 = sum_by-cons r between older in
    let r3 = sum_by-cons r file older in
    let p1 = sum_by-cons p file (between ∷ older) in
    let p2 = sum_by-cons p between older in
    let p3 = sum_by-cons p file older in
    let s1 = sum_by-cons s file (between ∷ older) in
    let s2 = sum_by-cons s between older in
    let s3 = sum_by-cons s file older in
    omega (arith, all, less, r1, r2, r3, p1, p2, p3, s1, s2, s3)
