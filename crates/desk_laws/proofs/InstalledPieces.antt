-- The pieces that an accepted install places.
use Rattle.desk_types.proofs.Common.{[], ⊤, ◌++◌, ◌+◌, ◌-◌, ◌||◌, ◌∙◌, ◌∷◌, ◌≡◌, All, All-append, All-cons}
use Rattle.desk_types.proofs.Common.{All-nil, AllByRecursion, ap, append-nil, append_assoc, arith, bench_of}
use Rattle.desk_types.proofs.Common.{Bool, cons_option, count_picks, entry_takes, enumerate_from, false}
use Rattle.desk_types.proofs.Common.{filter_map, filter_map-append, find, History, if◌then◌else◌}
use Rattle.desk_types.proofs.Common.{install_picks, is_placed, IsJudged, left_of, length, length-append, List}
use Rattle.desk_types.proofs.Common.{map, min, Name, None, Option, option_and_then, option_map, option_map_or}
use Rattle.desk_types.proofs.Common.{option_to_list, pick_for, picks_of, pieces_off, placement_of}
use Rattle.desk_types.proofs.Common.{placements_of, receipt_of, refl, same, same-refl, scrap_picks, slice_get}
use Rattle.desk_types.proofs.Common.{slot_on, Some, subst, sym, take, take_of, takes_of, tape_of, true, ℕ}
use Rattle.desk_laws.proofs.Common.{Command, Counted, CountRow, CountsTaken, Entry, IsRightlyPlaced}
use Rattle.desk_laws.proofs.Common.{MaterialsInstalled, MaterialsScrapped, Pick, Placed, Placement, Purpose}
use Rattle.desk_laws.proofs.Common.{Receipt, Rejected, Two}
use Rattle.desk_laws.proofs.{Accepted.next-accepted, Distinct.all-append, Installs.ArePlacedFor}
use Rattle.desk_laws.proofs.{Installs.each-placed, Installs.placed-at, Mounts.has, Mounts.unreceived-nowhere}
use Rattle.desk_laws.proofs.{Picks.all-off, VerifiedReels.tape-verified}
use Rattle.desk_laws.specs.Verified.{next_reel}
use Rattle.std.proofs.lemmas.List.{take_at}

-- ---- picks in turn

-- The pick for a designator: at its slot, from the first reel with a piece left after earlier
-- picks.
pub record IsPickedFor (H : History) (command : Command) (before : List Pick) (reel board designator machine slot : Name) : Type 0 where
  pub designators : List Name
  pub installs : command ≡ MaterialsInstalled machine board designators
  pub on_sheet : slot_on H machine designator ≡ Some slot
  pub next : next_reel H machine slot before ≡ Some reel

-- A pick that places a piece is the one for its designator.
abbrev pub IsPicked : History → Command → List Pick → Name → Purpose → Type 0
IsPicked H command before reel (Placed board designator machine slot) = IsPickedFor H command before reel board designator machine slot
IsPicked H command before reel _ = ⊤

-- The same for each pick in turn.
abbrev pub ArePicked : History → Command → List Pick → List Pick → Type 0
ArePicked H command before [] = ⊤
ArePicked H command before (p ∷ ps) = IsPicked H command before p.reel p.purpose × ArePicked H command (before ++ p ∷ []) ps

picked-push : (H : History) (command : Command) (before ps : List Pick) (p : Pick) → ArePicked H command before ps → IsPicked H command (before ++ ps) p.reel p.purpose
    → ArePicked H command before (ps ++ p ∷ [])
picked-push H command before [] p all last = (subst (λ b. IsPicked H command b p.reel p.purpose) (append-nil before) last, tt)
picked-push H command before (x ∷ xs) p (first, all) last =
    (first, picked-push H command (before ++ x ∷ []) xs p all (subst (λ b. IsPicked H command b p.reel p.purpose) (sym (append_assoc before (x ∷ []) xs)) last))

one-picked : (H : History) (machine board : Name) (all : List Name) (before : List Pick) (d : Name) → ArePicked H (MaterialsInstalled machine board all) [] before
    → ArePicked H (MaterialsInstalled machine board all) [] (before ++ option_to_list (pick_for (bench_of H machine board) before d))
one-picked H machine board all before d right = by (slot_on H machine d) refl
  where
    pick : Name → Name → Pick
    pick slot reel = record { reel = reel; quantity = 1; purpose = Placed board d machine slot }

    none : ArePicked H (MaterialsInstalled machine board all) [] (before ++ [])
    none = subst (ArePicked H (MaterialsInstalled machine board all) []) (sym (append-nil before)) right

    found : (slot : Name) (reel : Option Name) → slot_on H machine d ≡ Some slot → next_reel H machine slot before ≡ reel
        → ArePicked H (MaterialsInstalled machine board all) [] (before ++ option_to_list (option_map (pick slot) reel))
    found slot None there is = none
    found slot (Some reel) there is =
        picked-push H (MaterialsInstalled machine board all) [] before (pick slot reel) right (record { designators = all; installs = refl; on_sheet = there; next = is })

    by : (slot : Option Name) → slot_on H machine d ≡ slot
        → ArePicked H (MaterialsInstalled machine board all) [] (before ++ option_to_list (option_and_then (λ s. option_map (pick s) (next_reel H machine s before)) slot))
    by None there = none
    by (Some slot) there = found slot (next_reel H machine slot before) there refl

install-picked : (H : History) (machine board : Name) (all : List Name) (before : List Pick) (ds : List Name)
    → ArePicked H (MaterialsInstalled machine board all) [] before
    → ArePicked H (MaterialsInstalled machine board all) [] (install_picks (bench_of H machine board) before ds)
unfolding install_picks
install-picked H machine board all before [] right = right
install-picked H machine board all before (d ∷ ds) right =
    install-picked H machine board all (before ++ option_to_list (pick_for (bench_of H machine board) before d)) ds
    (one-picked H machine board all before d right)

-- ---- other takes

-- The pick places no piece.
abbrev pub IsUnplaced : Pick → Type 0
IsUnplaced p = is_placed p.purpose ≡ false

abbrev pub AreUnplaced : List Pick → Type 0
AreUnplaced picks = AllByRecursion IsUnplaced picks

pub unplaced-scrap : (pieces : Name → ℕ) (machine slot : Name) (reels : List Name) (n : ℕ) → AreUnplaced (scrap_picks pieces (Rejected machine slot) reels n)
unplaced-scrap pieces machine slot [] n = tt
unplaced-scrap pieces machine slot (r ∷ rs) n =
    all-append IsUnplaced (pieces_off r (min n (pieces r)) (Rejected machine slot)) _ (all-off IsUnplaced r (min n (pieces r)) (Rejected machine slot) refl)
    (unplaced-scrap pieces machine slot rs (n - pieces r))

pub unplaced-count : (pieces : Name → ℕ) (rows : List CountRow) → AreUnplaced (count_picks pieces rows)
unplaced-count pieces [] = tt
unplaced-count pieces (row ∷ rows) =
    all-append IsUnplaced (pieces_off row.reel (pieces row.reel - row.quantity) Counted) _ (all-off IsUnplaced row.reel (pieces row.reel - row.quantity) Counted refl)
    (unplaced-count pieces rows)

unplaced-picked : (H : History) (command : Command) (before ps : List Pick) → AreUnplaced ps → ArePicked H command before ps
unplaced-picked H command before [] all = tt
unplaced-picked H command before (p ∷ ps) (first, all) = (by p.purpose first, unplaced-picked H command (before ++ p ∷ []) ps all)
  where
    by : (purpose : Purpose) → is_placed purpose ≡ false → IsPicked H command before p.reel purpose
    by (Placed board d machine slot) is = cc
    by (Rejected machine slot) is = tt
    by Counted is = tt

pub picks-picked : (H : History) (command : Command) → ArePicked H command [] (picks_of H command)
picks-picked H (MaterialsInstalled machine board ds) = install-picked H machine board ds [] ds tt
picks-picked H (MaterialsScrapped machine slot n) =
    unplaced-picked H (MaterialsScrapped machine slot n) [] _ (unplaced-scrap (left_of H) machine slot (tape_of H machine slot) n)
picks-picked H (CountsTaken counts) = unplaced-picked H (CountsTaken counts) [] _ (unplaced-count (left_of H) counts)
picks-picked H _ = tt

-- ---- placements

pub find-there : (p : Name → Bool) (names : List Name) (name : Name) → find p names ≡ Some name → has names name ≡ true
find-there p [] name is = cc
find-there p (x ∷ xs) name is = by (p x) is (find-there p xs name)
  where
    first : x ≡ name → (same name x || has xs name) ≡ true
    first one = ap (λ y. same name y || has xs name) one ∙ ap (λ b. b || has xs name) (same-refl name)

    by : (b : Bool) → (if b then Some x else find p xs) ≡ Some name → (find p xs ≡ Some name → has xs name ≡ true) → (same name x || has xs name) ≡ true
    by true is rest = first cc
    by false is rest = last (same name x) (rest is)
      where
        last : (a : Bool) → has xs name ≡ true → (a || has xs name) ≡ true
        last true there = refl
        last false there = there

take-before : (before ps : List Pick) (place : ℕ) → place ≡ length before + 1 → take (place - 1) (before ++ ps) ≡ before
take-before before ps place is = take_at before ps (place - 1) (omega (arith, is))

entry-placed : (H : History) (e : Entry) → IsJudged Two H → ((m b : Name) (ds : List Name) → e.stamped.command ≡ MaterialsInstalled m b ds → ArePlacedFor m b ds (picks_of H e.stamped.command))
    → (before ps : List Pick) (place : ℕ) → place ≡ length before + 1 → picks_of H e.stamped.command ≡ before ++ ps
    → ArePicked H e.stamped.command before ps
    → All (IsRightlyPlaced (e ∷ H)) (filter_map placement_of (
    map (λ (place, take). record { number = e.number; place = place; effective = e.effective; take = take }) (enumerate_from place (map (take_of H e.effective) ps))))
entry-placed H e judged each before [] place there all right = All-nil (IsRightlyPlaced (e ∷ H))
entry-placed H e judged each before (p ∷ ps) place there all (first, right) =
    by p.purpose refl first (
    entry-placed H e judged each (before ++ p ∷ []) ps (place + 1) (let more = length-append before (p ∷ []) in omega (arith, there, more))
    (all ∙ sym (append_assoc before (p ∷ []) ps)) right)
  where
    rest : List Placement
    rest =
        filter_map placement_of (
        map (λ (place, take). record { number = e.number; place = place; effective = e.effective; take = take }) (enumerate_from (place + 1) (map (take_of H e.effective) ps)))

    given : (machine slot : Name) → next_reel H machine slot before ≡ Some p.reel → (said : Option Receipt) → receipt_of H p.reel ≡ said → (receipt : Receipt) × (receipt_of H p.reel ≡ Some receipt)
    given machine slot next None said = let on = find-there _ (tape_of H machine slot) p.reel next in let nowhere = unreceived-nowhere H machine slot p.reel judged said in cc
    given machine slot next (Some receipt) said = (receipt, said)

    by : (purpose : Purpose) → p.purpose ≡ purpose → IsPicked H e.stamped.command before p.reel purpose → All (IsRightlyPlaced (e ∷ H)) rest
        → All (IsRightlyPlaced (e ∷ H)) (
        cons_option (
        placement_of (
        record { number = e.number; place = place; effective = e.effective; take = take_of H e.effective (record { reel = p.reel; quantity = p.quantity; purpose = purpose }) }))
        rest)
    by (Placed board d machine slot) says is others =
        let receipt = given machine slot is.next (receipt_of H p.reel) refl in
        All-cons (IsRightlyPlaced (e ∷ H)) _ rest (record {
          before = H;
          entry = e;
          accepted = ([], refl);
          number = refl;
          effective = refl;
          designators = is.designators;
          command = is.installs;
          place = omega (arith, there);
          named =
              (let index : place - 1 ≡ length before = omega (arith, there) in
              ap (slice_get is.designators) index
              ∙ placed-at machine board is.designators before ps p board d machine slot
              (subst (ArePlacedFor machine board is.designators) all (each machine board is.designators is.installs)) says);
          slot = is.on_sheet;
          next = ap (next_reel H machine slot) (ap (take (place - 1)) all ∙ take-before before (p ∷ ps) place there) ∙ is.next;
          receipt = receipt.0;
          received = receipt.1;
          part = ap (λ r. option_map_or (λ (x : Receipt). x.part) r []) receipt.1;
          lot = ap (λ r. option_map_or (λ (x : Receipt). x.lot) r []) receipt.1;
          overdue = refl;
          verified = tape-verified H machine slot p.reel judged (find-there _ (tape_of H machine slot) p.reel is.next);
        }) others
    by (Rejected machine slot) says is others = others
    by Counted says is others = others

placed-later : (H : History) (e : Entry) (p : Placement) → IsRightlyPlaced H p → IsRightlyPlaced (e ∷ H) p
placed-later H e p is = record {
  before = is.before;
  entry = is.entry;
  accepted = (e ∷ is.accepted.0, ap (λ es. e ∷ es) is.accepted.1);
  number = is.number;
  effective = is.effective;
  designators = is.designators;
  command = is.command;
  place = is.place;
  named = is.named;
  slot = is.slot;
  next = is.next;
  receipt = is.receipt;
  received = is.received;
  part = is.part;
  lot = is.lot;
  overdue = is.overdue;
  verified = is.verified;
}

pub rightly-placed : (H : History) → IsJudged Two H → All (IsRightlyPlaced H) (placements_of H)
unfolding takes_of
rightly-placed [] judged = All-nil (IsRightlyPlaced [])
rightly-placed (e ∷ H) (next, judged) =
    subst (All (IsRightlyPlaced (e ∷ H))) (sym (filter_map-append placement_of (takes_of H) (entry_takes H e)))
    (All-append (IsRightlyPlaced (e ∷ H)) (placements_of H) (filter_map placement_of (entry_takes H e))
    (λ k d inside. placed-later H e _ (rightly-placed H judged k d inside))
    (entry-placed H e judged (λ m b ds is. each-placed H e.effective e.stamped.command m b ds (next-accepted H e next) is) [] (picks_of H e.stamped.command) 1 refl refl (picks-picked H e.stamped.command)))
