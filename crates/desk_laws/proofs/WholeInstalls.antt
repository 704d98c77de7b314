-- Accepted installs and scraps are whole.
use Rattle.desk_types.proofs.Common.{[], ◌++◌, ◌+◌, ◌-◌, ◌∙◌, ◌∷◌, ◌≡◌, ◌≤◌, accept, ap, arith, Bool}
use Rattle.desk_types.proofs.Common.{command_refusal, cons_option, detail_of, effective_minute, entry_of}
use Rattle.desk_types.proofs.Common.{entry_takes, enumerate_from, false, filter_map, filter_map-append}
use Rattle.desk_types.proofs.Common.{History, if◌then◌else◌, is_vacant, left_of, List, live_on, ltb-false}
use Rattle.desk_types.proofs.Common.{map, min, Name, nat_lt, None, picks_of, pieces_of, pieces_off}
use Rattle.desk_types.proofs.Common.{placement_of, placements_of, reels_of, refl, refusal_of, scrap_picks}
use Rattle.desk_types.proofs.Common.{scrap_refusal, sum_by, sum_by-append, sym, take_of, takes_of, true}
use Rattle.desk_types.proofs.Common.{zero-add, ℕ}
use Rattle.desk_laws.proofs.Common.{Entry, MaterialsInstalled, MaterialsScrapped, Pick, Placement, Purpose}
use Rattle.desk_laws.proofs.Common.{Reels, ReelShort, Refusal, Rejected, SlotEmpty, Stamped, Two}
use Rattle.desk_laws.proofs.{Accepted.command-accepted, Accepted.none-holds, Installs.ArePlacedFor}
use Rattle.desk_laws.proofs.{Installs.each-placed, Lives.scrap-live}
use Rattle.desk_laws.specs.Whole.{spot_of, spots_from, spots_named}
use Rattle.std.proofs.lemmas.List.{append_cancel_left}

-- ---- installs

-- The placements of an entry's picks, the first of them at this place of the message.
abbrev placed_from : History → Entry → ℕ → List Pick → List Placement
placed_from H e place ps = filter_map placement_of (map (λ (place, take). record { number = e.number; place = place; effective = e.effective; take = take }) (enumerate_from place (map (take_of H e.effective) ps)))

all-placed : (H : History) (e : Entry) (machine board : Name) (place : ℕ) (ds : List Name) (ps : List Pick) → ArePlacedFor machine board ds ps
    → (map spot_of (placed_from H e place ps) ≡ spots_from place machine board ds) × (map (λ p. p.reel) (placed_from H e place ps) ≡ reels_of ps)
all-placed H e machine board place [] [] all = (refl, refl)
all-placed H e machine board place (d ∷ ds) (p ∷ ps) ((slot, is), all) =
    let rest = all-placed H e machine board (place + 1) ds ps all in
    let one = ap (λ purpose. cons_option (
    placement_of (
    record { number = e.number; place = place; effective = e.effective; take = take_of H e.effective (record { reel = p.reel; quantity = p.quantity; purpose = purpose }) }))
    (placed_from H e (place + 1) ps)) is in (
      ap (map spot_of) one ∙ ap (λ l. record { place = place; machine = machine; board = board; designator = d } ∷ l) rest.0,
      ap (map (λ (q : Placement). q.reel)) one ∙ ap (λ l. p.reel ∷ l) rest.1,
    )
all-placed H e machine board place [] (p ∷ ps) all = absurd all
all-placed H e machine board place (d ∷ ds) [] all = absurd all

pub install-whole : (H : History) (s : Stamped) (machine board : Name) (ds : List Name) → refusal_of Two H s ≡ None → s.command ≡ MaterialsInstalled machine board ds
    → (more : List Placement) × (placements_of (accept H s) ≡ placements_of H ++ more) × (map spot_of more ≡ spots_named machine board ds) × (map (λ p. p.reel) more ≡ reels_of (picks_of H s.command))
unfolding takes_of
install-whole H s machine board ds none is =
    let both = all-placed H (entry_of H s) machine board 1 ds (picks_of H s.command) (each-placed H (effective_minute H s.minute) s.command machine board ds (command-accepted H s none) is) in
    (filter_map placement_of (entry_takes H (entry_of H s)), filter_map-append placement_of (takes_of H) (entry_takes H (entry_of H s)), both.0, both.1)

pub install-told : (H : History) (s : Stamped) (machine board : Name) (ds : List Name) (more : List Placement) (minute : ℕ) → refusal_of Two H s ≡ None
    → s.command ≡ MaterialsInstalled machine board ds → placements_of (accept H s) ≡ placements_of H ++ more
    → detail_of H minute s.command ≡ Reels (map (λ (p : Placement). p.reel) more)
install-told H s machine board ds more minute none is placed =
    let whole = install-whole H s machine board ds none is in
    ap (detail_of H minute) is
    ∙ ap (λ c. Reels (reels_of (picks_of H c))) (sym is)
    ∙ ap Reels (sym whole.3 ∙ ap (map (λ (p : Placement). p.reel)) (append_cancel_left (placements_of H) whole.0 more (sym whole.1 ∙ placed)))

-- ---- scraps

pub pieces-off : (r : Name) (n : ℕ) (purpose : Purpose) → pieces_of (pieces_off r n purpose) ≡ n
pieces-off r n purpose = by (nat_lt 0 n) refl
  where
    by : (b : Bool) → nat_lt 0 n ≡ b → pieces_of (if◌then◌else◌ {A = List Pick} b (record { reel = r; quantity = n; purpose = purpose } ∷ []) []) ≡ n
    by true is = zero-add n
    by false is = let none = ltb-false 0 n is in omega (arith, none)

scrap-takes : (pieces : Name → ℕ) (purpose : Purpose) (reels : List Name) (n : ℕ) → pieces_of (scrap_picks pieces purpose reels n) ≡ min n (sum_by pieces reels)
scrap-takes pieces purpose [] n = omega arith
scrap-takes pieces purpose (r ∷ rs) n =
    let both = sum_by-append (λ (p : Pick). p.quantity) (pieces_off r (min n (pieces r)) purpose) (scrap_picks pieces purpose rs (n - pieces r)) in
    let first = pieces-off r (min n (pieces r)) purpose in
    let rest = scrap-takes pieces purpose rs (n - pieces r) in
    let whole : sum_by pieces (r ∷ rs) ≡ 0 + pieces r + sum_by pieces rs = sum_by-append pieces (r ∷ []) rs in
    omega (arith, both, first, rest, whole)

scrap-has : (H : History) (machine slot : Name) (n : ℕ) → scrap_refusal H machine slot n ≡ None → n ≤ sum_by (left_of H) (live_on H machine slot)
unfolding scrap_refusal
scrap-has H machine slot n none = ltb-false _ _ (none-holds tests none).1.0
  where
    tests : List (Bool × Refusal)
    tests = (is_vacant H machine slot, SlotEmpty slot) ∷ (nat_lt (sum_by (left_of H) (live_on H machine slot)) n, ReelShort slot) ∷ []

scrap-exact : (H : History) (minute : ℕ) (machine slot : Name) (n : ℕ) → command_refusal Two H minute (MaterialsScrapped machine slot n) ≡ None
    → pieces_of (picks_of H (MaterialsScrapped machine slot n)) ≡ n
unfolding command_refusal
scrap-exact H minute machine slot n none =
    let live = ap pieces_of (scrap-live H (Rejected machine slot) machine slot n) in
    let all = scrap-takes (left_of H) (Rejected machine slot) (live_on H machine slot) n in
    let enough = scrap-has H machine slot n none in
    sym live ∙ all ∙ omega (arith, enough)

pub scrap-whole : (H : History) (s : Stamped) (machine slot : Name) (n : ℕ) → refusal_of Two H s ≡ None → s.command ≡ MaterialsScrapped machine slot n
    → pieces_of (picks_of H s.command) ≡ n
scrap-whole H s machine slot n none is =
    ap (λ c. pieces_of (picks_of H c)) is
    ∙ scrap-exact H (effective_minute H s.minute) machine slot n (sym (ap (command_refusal Two H (effective_minute H s.minute)) is) ∙ command-accepted H s none)
