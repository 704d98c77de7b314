-- No designator of a board is placed twice.
use Rattle.desk_types.proofs.Common.{[], ◌&&◌, ◌++◌, ◌+◌, ◌||◌, ◌∙◌, ◌∷◌, ◌≡◌, AllByRecursion, and-false, ap}
use Rattle.desk_types.proofs.Common.{bench_of, Bool, command_refusal, cons_option, entry_takes}
use Rattle.desk_types.proofs.Common.{enumerate_from, false, filter_map, filter_map-append, History, is_placed}
use Rattle.desk_types.proofs.Common.{is_placed_on, IsDistinct, IsJudged, left_of, List, list_any}
use Rattle.desk_types.proofs.Common.{list_any-append, map, map-append, Name, None, Option, or_comm, picks_of}
use Rattle.desk_types.proofs.Common.{placement_of, placements_of, places, refl, same, same-sym, same_pair}
use Rattle.desk_types.proofs.Common.{Some, subst, sym, take_of, takes_of, tape_of, true, ℕ}
use Rattle.desk_laws.proofs.Common.{Command, Counted, CountsTaken, Entry, MaterialsInstalled}
use Rattle.desk_laws.proofs.Common.{MaterialsScrapped, Pick, Placed, Placement, Purpose, Rejected, Two}
use Rattle.desk_laws.proofs.{Accepted.next-accepted, Distinct.distinct-join, InstalledPieces.AreUnplaced}
use Rattle.desk_laws.proofs.{InstalledPieces.unplaced-count, InstalledPieces.unplaced-scrap}
use Rattle.desk_laws.proofs.{Installs.ArePlacedFor, Installs.designators-differ, Installs.designators-new}
use Rattle.desk_laws.proofs.{Installs.each-placed, Installs.installable}
use Rattle.std.proofs.lemmas.Bool.{and_right}

-- ---- spots: a board and one of its designators

abbrev spot_by : Purpose → Option (Name × Name)
spot_by (Placed board designator machine slot) = Some (board, designator)
spot_by _ = None

abbrev spots : List Pick → List (Name × Name)
spots picks = filter_map (λ (p : Pick). spot_by p.purpose) picks

abbrev pub spots_of : List Placement → List (Name × Name)
spots_of placements = map (λ (p : Placement). (p.board, p.designator)) placements

abbrev spots_named : Command → List (Name × Name)
spots_named (MaterialsInstalled machine board designators) = map (λ (d : Name). (board, d)) designators
spots_named _ = []

-- ---- one command

placed-spots : (machine board : Name) (ds : List Name) (ps : List Pick) → ArePlacedFor machine board ds ps → spots ps ≡ map (λ (x : Name). (board, x)) ds
placed-spots machine board [] [] all = refl
placed-spots machine board (d ∷ ds) (p ∷ ps) ((slot, is), all) =
    ap (λ purpose. cons_option (spot_by purpose) (spots ps)) is ∙ ap (λ l. (board, d) ∷ l) (placed-spots machine board ds ps all)
placed-spots machine board [] (p ∷ ps) all = absurd all
placed-spots machine board (d ∷ ds) [] all = absurd all

unplaced-spots : (picks : List Pick) → AreUnplaced picks → spots picks ≡ []
unplaced-spots [] all = refl
unplaced-spots (p ∷ ps) (first, all) = by p.purpose first (unplaced-spots ps all)
  where
    by : (purpose : Purpose) → is_placed purpose ≡ false → spots ps ≡ [] → cons_option (spot_by purpose) (spots ps) ≡ []
    by (Placed board d machine slot) is rest = cc
    by (Rejected machine slot) is rest = rest
    by Counted is rest = rest

command-spots : (H : History) (minute : ℕ) (command : Command) → command_refusal Two H minute command ≡ None → spots (picks_of H command) ≡ spots_named command
unfolding command_refusal
command-spots H minute (MaterialsInstalled machine board ds) none =
    placed-spots machine board ds _ (each-placed H minute (MaterialsInstalled machine board ds) machine board ds none refl)
command-spots H minute (MaterialsScrapped machine slot n) none = unplaced-spots _ (unplaced-scrap (left_of H) machine slot (tape_of H machine slot) n)
command-spots H minute (CountsTaken counts) none = unplaced-spots _ (unplaced-count (left_of H) counts)
command-spots H minute _ none = refl

board-named : (board : Name) (ds : List Name) (b d : Name) → list_any (same_pair (b, d)) (map (λ (x : Name). (board, x)) ds) ≡ (same board b && list_any (same d) ds)
board-named board [] b d = sym (and-false (same board b))
board-named board (x ∷ xs) b d =
    ap (λ r. (same b board && same d x) || r) (board-named board xs b d) ∙ ap (λ t. (t && same d x) || (same board b && list_any (same d) xs)) (same-sym b board)
    ∙ both (same board b) (same d x) (list_any (same d) xs)
  where
    both : (a s t : Bool) → ((a && s) || (a && t)) ≡ (a && (s || t))
    both true s t = refl
    both false s t = refl

named-placed : (command : Command) (b d : Name) → list_any (same_pair (b, d)) (spots_named command) ≡ places b d command
named-placed (MaterialsInstalled machine board ds) b d = board-named board ds b d
named-placed _ b d = refl

board-distinct : (board : Name) (ds : List Name) → IsDistinct same ds → IsDistinct same_pair (map (λ (x : Name). (board, x)) ds)
unfolding IsDistinct
board-distinct board [] distinct = tt
board-distinct board (d ∷ ds) (apart, distinct) = (others ds apart, board-distinct board ds distinct)
  where
    others : (xs : List Name) → AllByRecursion (λ y. same d y ≡ false) xs → AllByRecursion (λ y. same_pair (board, d) y ≡ false) (map (λ (x : Name). (board, x)) xs)
    others [] all = tt
    others (x ∷ xs) (first, all) = (and_right (same board board) (same d x) first, others xs all)

named-distinct : (H : History) (minute : ℕ) (command : Command) → command_refusal Two H minute command ≡ None → IsDistinct same_pair (spots_named command)
unfolding command_refusal IsDistinct
named-distinct H minute (MaterialsInstalled machine board ds) none =
    board-distinct board ds (
    designators-differ (bench_of H machine board) (is_placed_on H board) [] [] ds (installable H machine board ds none) tt)
named-distinct H minute _ none = tt

named-new : (H : History) (minute : ℕ) (command : Command) → command_refusal Two H minute command ≡ None
    → AllByRecursion (λ (s : Name × Name). is_placed_on H s.0 s.1 ≡ false) (spots_named command)
unfolding command_refusal
named-new H minute (MaterialsInstalled machine board ds) none =
    each ds (designators-new (bench_of H machine board) (is_placed_on H board) [] [] ds (installable H machine board ds none))
  where
    each : (xs : List Name) → AllByRecursion (λ d. is_placed_on H board d ≡ false) xs
        → AllByRecursion (λ (s : Name × Name). is_placed_on H s.0 s.1 ≡ false) (map (λ (x : Name). (board, x)) xs)
    each [] all = tt
    each (x ∷ xs) (first, all) = (first, each xs all)
named-new H minute _ none = tt

-- ---- histories

entry-spots : (H : History) (e : Entry) (place : ℕ) (ps : List Pick)
    → spots_of (filter_map placement_of (
    map (λ (place, take). record { number = e.number; place = place; effective = e.effective; take = take }) (enumerate_from place (map (take_of H e.effective) ps))))
    ≡ spots ps
entry-spots H e place [] = refl
entry-spots H e place (p ∷ ps) = by p.purpose (entry-spots H e (place + 1) ps)
  where
    rest : List Placement
    rest =
        filter_map placement_of (
        map (λ (place, take). record { number = e.number; place = place; effective = e.effective; take = take }) (enumerate_from (place + 1) (map (take_of H e.effective) ps)))

    by : (purpose : Purpose) → spots_of rest ≡ spots ps
        → spots_of (
        cons_option (
        placement_of (
        record { number = e.number; place = place; effective = e.effective; take = take_of H e.effective (record { reel = p.reel; quantity = p.quantity; purpose = purpose }) }))
        rest)
        ≡ cons_option (spot_by purpose) (spots ps)
    by (Placed board d machine slot) is = ap (λ l. (board, d) ∷ l) is
    by (Rejected machine slot) is = is
    by Counted is = is

spots-next : (H : History) (e : Entry) → IsJudged Two (e ∷ H) → spots_of (placements_of (e ∷ H)) ≡ spots_of (placements_of H) ++ spots_named e.stamped.command
unfolding takes_of
spots-next H e (next, judged) =
    ap spots_of (filter_map-append placement_of (takes_of H) (entry_takes H e))
    ∙ map-append (λ (p : Placement). (p.board, p.designator)) (placements_of H) (filter_map placement_of (entry_takes H e))
    ∙ ap (λ l. spots_of (placements_of H) ++ l) (entry-spots H e 1 (picks_of H e.stamped.command) ∙ command-spots H e.effective e.stamped.command (next-accepted H e next))

pub spot-placed : (H : History) (board d : Name) → IsJudged Two H → list_any (same_pair (board, d)) (spots_of (placements_of H)) ≡ is_placed_on H board d
unfolding takes_of
spot-placed [] board d judged = refl
spot-placed (e ∷ H) board d (next, judged) =
    ap (list_any (same_pair (board, d))) (spots-next H e (next, judged))
    ∙ list_any-append (same_pair (board, d)) (spots_of (placements_of H)) (spots_named e.stamped.command)
    ∙ ap (λ b. b || list_any (same_pair (board, d)) (spots_named e.stamped.command)) (spot-placed H board d judged)
    ∙ ap (λ b. is_placed_on H board d || b) (named-placed e.stamped.command board d)
    ∙ or_comm (is_placed_on H board d) (places board d e.stamped.command)

pub designators-once : (H : History) → IsJudged Two H → IsDistinct same_pair (spots_of (placements_of H))
unfolding takes_of IsDistinct
designators-once [] judged = tt
designators-once (e ∷ H) (next, judged) =
    subst (IsDistinct same_pair) (sym (spots-next H e (next, judged)))
    (distinct-join same_pair flips (spots_of (placements_of H)) (spots_named e.stamped.command) (designators-once H judged)
    (named-distinct H e.effective e.stamped.command accepted) (new (spots_named e.stamped.command) (named-new H e.effective e.stamped.command accepted)))
  where
    accepted : command_refusal Two H e.effective e.stamped.command ≡ None
    accepted = next-accepted H e next

    flips : (x y : Name × Name) → same_pair x y ≡ same_pair y x
    flips x y = ap (λ b. b && same x.1 y.1) (same-sym x.0 y.0) ∙ ap (λ b. same y.0 x.0 && b) (same-sym x.1 y.1)

    new : (names : List (Name × Name)) → AllByRecursion (λ (s : Name × Name). is_placed_on H s.0 s.1 ≡ false) names
        → AllByRecursion (λ s. list_any (same_pair s) (spots_of (placements_of H)) ≡ false) names
    new [] all = tt
    new (s ∷ ss) (first, all) = (spot-placed H s.0 s.1 judged ∙ first, new ss all)
