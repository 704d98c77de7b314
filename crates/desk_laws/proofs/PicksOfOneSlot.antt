-- Each pick comes from the only slot where its reel is live.
use Rattle.desk_types.proofs.Common.{[], ◌&&◌, ◌++◌, ◌-◌, ◌∙◌, ◌∷◌, ◌≡◌, AllByRecursion, and_from, and_parts}
use Rattle.desk_types.proofs.Common.{ap, command_refusal, Contains-from_any, count_picks, counts_refusal}
use Rattle.desk_types.proofs.Common.{find, History, install_picks, IsJudged, left_of, List, live_on, min}
use Rattle.desk_types.proofs.Common.{Name, nat_lt, None, Option, option_and_then, option_map, option_to_list}
use Rattle.desk_types.proofs.Common.{or_left, or_right, pick_for, picks_of, pieces_off, pieces_picked, refl}
use Rattle.desk_types.proofs.Common.{same, same-refl, same-true, scrap_picks, slot_on, Some, subst, sym}
use Rattle.desk_types.proofs.Common.{tape_of, true, ℕ}
use Rattle.desk_laws.proofs.Common.{Command, Counted, CountRow, CountsTaken, Entry, MaterialsInstalled}
use Rattle.desk_laws.proofs.Common.{MaterialsScrapped, Pick, Placed, Rejected, Two}
use Rattle.desk_laws.proofs.{Accepted.next-accepted, Distinct.all-append, InstalledPieces.find-there}
use Rattle.desk_laws.proofs.{Lives.live_bench, Lives.picks-live, Lives.scrap-live, Mounts.has}
use Rattle.desk_laws.proofs.{Mounts.has-live_on, Mounts.live-mounted, Picks.all-off, Picks.countable}
use Rattle.desk_laws.proofs.{Places.one-slot}
use Rattle.desk_laws.specs.Slots.{IsOnItsSlot}

pub live-pieces : (H : History) (machine slot reel : Name) → has (live_on H machine slot) reel ≡ true → nat_lt 0 (left_of H reel) ≡ true
live-pieces H machine slot reel live = (and_parts _ (has (tape_of H machine slot) reel) (sym (has-live_on H machine slot reel) ∙ live)).0

alone : (H : History) (m s machine slot reel : Name) → IsJudged Two H → has (live_on H m s) reel ≡ true → has (live_on H machine slot) reel ≡ true
    → (same m machine && same s slot) ≡ true
alone H m s machine slot reel judged here there =
    let one = one-slot H m s machine slot reel judged (Contains-from_any same-true reel (live_on H m s) here) (Contains-from_any same-true reel (live_on H machine slot) there) in
    and_from _ _ (ap (λ x. same x machine) one.0 ∙ same-refl machine) (ap (λ x. same x slot) one.1 ∙ same-refl slot)

-- ---- installs

-- A designator's reel is live only on the designator's slot.
pick-alone : (H : History) (machine board : Name) (before : List Pick) (d : Name) → IsJudged Two H
    → AllByRecursion (IsOnItsSlot (live_on H)) (option_to_list (pick_for (live_bench H machine board) before d))
pick-alone H machine board before d judged = by (slot_on H machine d)
  where
    pick : Name → Name → Pick
    pick slot reel = record { reel = reel; quantity = 1; purpose = Placed board d machine slot }

    found : (slot : Name) (reel : Option Name) → ((r : Name) → reel ≡ Some r → has (live_on H machine slot) r ≡ true)
        → AllByRecursion (IsOnItsSlot (live_on H)) (option_to_list (option_map (pick slot) reel))
    found slot None live = tt
    found slot (Some r) live = (λ m s there. alone H machine slot m s r judged (live r refl) there, tt)

    by : (slot : Option Name) → AllByRecursion (IsOnItsSlot (live_on H))
        (option_to_list (option_and_then (λ s. option_map (pick s) (find (λ r. nat_lt (pieces_picked before r) (left_of H r)) (live_on H machine s))) slot))
    by None = tt
    by (Some slot) =
        found slot (find (λ r. nat_lt (pieces_picked before r) (left_of H r)) (live_on H machine slot))
        (λ r is. find-there (λ x. nat_lt (pieces_picked before x) (left_of H x)) (live_on H machine slot) r is)

install-alone : (H : History) (machine board : Name) (before : List Pick) (ds : List Name) → IsJudged Two H
    → AllByRecursion (IsOnItsSlot (live_on H)) before → AllByRecursion (IsOnItsSlot (live_on H)) (install_picks (live_bench H machine board) before ds)
unfolding install_picks
install-alone H machine board before [] judged all = all
install-alone H machine board before (d ∷ ds) judged all =
    install-alone H machine board (before ++ option_to_list (pick_for (live_bench H machine board) before d)) ds judged
    (all-append (IsOnItsSlot (live_on H)) before _ all (pick-alone H machine board before d judged))

-- ---- scraps and counts

scrap-alone : (H : History) (m s : Name) (reels : List Name) (n : ℕ) → IsJudged Two H → ((r : Name) → has reels r ≡ true → has (live_on H m s) r ≡ true)
    → AllByRecursion (IsOnItsSlot (live_on H)) (scrap_picks (left_of H) (Rejected m s) reels n)
scrap-alone H m s [] n judged live = tt
scrap-alone H m s (r ∷ rs) n judged live =
    all-append (IsOnItsSlot (live_on H)) (pieces_off r (min n (left_of H r)) (Rejected m s)) _
    (all-off (IsOnItsSlot (live_on H)) r _ (Rejected m s) (λ machine slot there. alone H m s machine slot r judged (live r (or_left (same r r) _ (same-refl r))) there))
    (scrap-alone H m s rs (n - left_of H r) judged (λ x there. live x (or_right (same x r) _ there)))

count-alone : (H : History) (seen : List Name) (rows : List CountRow) → counts_refusal Two H seen rows ≡ None
    → AllByRecursion (IsOnItsSlot (live_on H)) (count_picks (left_of H) rows)
count-alone H seen [] none = tt
count-alone H seen (row ∷ rows) none =
    let tests = countable H seen row rows none in
    all-append (IsOnItsSlot (live_on H)) (pieces_off row.reel (left_of H row.reel - row.quantity) Counted) _
    (all-off (IsOnItsSlot (live_on H)) row.reel _ Counted (λ machine slot there. let mounted = live-mounted H machine slot row.reel there in let off = tests.0.not_mounted in cc))
    (count-alone H (seen ++ row.reel ∷ []) rows tests.1)

-- ---- any command

-- Each pick of an accepted command comes from its reel's only slot.
alone-by : (H : History) (minute : ℕ) (command : Command) → IsJudged Two H → command_refusal Two H minute command ≡ None
    → AllByRecursion (IsOnItsSlot (live_on H)) (picks_of H command)
unfolding command_refusal
alone-by H minute (MaterialsInstalled machine board ds) judged accepted =
    subst (AllByRecursion (IsOnItsSlot (live_on H))) (picks-live H machine board [] ds) (install-alone H machine board [] ds judged tt)
alone-by H minute (MaterialsScrapped m s n) judged accepted =
    subst (AllByRecursion (IsOnItsSlot (live_on H))) (scrap-live H (Rejected m s) m s n) (scrap-alone H m s (live_on H m s) n judged (λ r there. there))
alone-by H minute (CountsTaken counts) judged accepted = count-alone H [] counts accepted
alone-by H minute _ judged accepted = tt

pub picks-alone : (H : History) (e : Entry) → IsJudged Two (e ∷ H) → AllByRecursion (IsOnItsSlot (live_on H)) (picks_of H e.stamped.command)
picks-alone H e (next, judged) = alone-by H e.effective e.stamped.command judged (next-accepted H e next)
