-- An install places its pieces on its own board; no other command places any.
use Rattle.desk_types.proofs.Common.{[], ⊤, ◌++◌, ◌+◌, ◌-◌, ◌∙◌, ◌∷◌, ◌≡◌, ap, Bench, bench_of, Bool}
use Rattle.desk_types.proofs.Common.{cons_option, count_picks, enumerate_from, false, filter, filter_map}
use Rattle.desk_types.proofs.Common.{find, History, if◌then◌else◌, install_picks, left_of, length, length-map}
use Rattle.desk_types.proofs.Common.{List, map, min, Name, nat_lt, None, Option, pick_for, picks_of}
use Rattle.desk_types.proofs.Common.{pieces_picked, placement_of, range_with_len, refl, same, scrap_picks}
use Rattle.desk_types.proofs.Common.{Some, sym, take_of, takes_by, tape_of, true, ℕ}
use Rattle.desk_laws.proofs.Common.{Command, Counted, CountRow, CountsTaken, MaterialsInstalled}
use Rattle.desk_laws.proofs.Common.{MaterialsScrapped, Pick, Placed, Placement, Rejected}
use Rattle.state_rows.proofs.Keys.{placed_key}
use Rattle.state_rows.specs.{Lists.Key, Noting.install_keys, Noting.keys_in}
use Rattle.std.proofs.Common.{option_and_then, option_map, option_to_list}

-- ---- installs

-- Each pick is of a piece for the board.
abbrev ArePlacedOn : Name → List Pick → Type 0
ArePlacedOn board [] = ⊤
ArePlacedOn board (p ∷ ps) = ((designator : Name) × (machine : Name) × (slot : Name) × (p.purpose ≡ Placed board designator machine slot)) × ArePlacedOn board ps

on-append : (board : Name) (ps qs : List Pick) → ArePlacedOn board ps → ArePlacedOn board qs → ArePlacedOn board (ps ++ qs)
on-append board [] qs all more = more
on-append board (p ∷ ps) qs (first, all) more = (first, on-append board ps qs all more)

module _ (bench : Bench) where
  one-on : (before : List Pick) (d : Name) → ArePlacedOn bench.board (option_to_list (pick_for bench before d))
  one-on before d = by (bench.slot_of d)
    where
      pick : Name → Name → Pick
      pick slot reel = record { reel = reel; quantity = 1; purpose = Placed bench.board d bench.machine slot }

      found : (slot : Name) (reel : Option Name) → ArePlacedOn bench.board (option_to_list (option_map (pick slot) reel))
      found slot None = tt
      found slot (Some reel) = ((d, bench.machine, slot, refl), tt)

      by : (slot : Option Name) → ArePlacedOn bench.board (option_to_list (option_and_then (λ s. option_map (pick s) (find (λ r. nat_lt (pieces_picked before r) (bench.pieces r)) (bench.tape s))) slot))
      by None = tt
      by (Some slot) = found slot (find (λ r. nat_lt (pieces_picked before r) (bench.pieces r)) (bench.tape slot))

  all-on : (before : List Pick) (ds : List Name) → ArePlacedOn bench.board before → ArePlacedOn bench.board (install_picks bench before ds)
  unfolding install_picks
  all-on before [] all = all
  all-on before (d ∷ ds) all =
      all-on (before ++ option_to_list (pick_for bench before d)) ds
      (on-append bench.board before (option_to_list (pick_for bench before d)) all (one-on before d))

abbrev is_on : Name → Placement → Bool
is_on board p = same p.board board

more-on : (there : Bool) (k : Key) (p : Placement) (ps : List Placement) (board : Name) (ks : List Key) → same p.board board ≡ there → placed_key p ≡ k
    → map placed_key (filter (is_on board) ps) ≡ (if there then ks else [])
    → map placed_key (filter (is_on board) (p ∷ ps)) ≡ (if there then k ∷ ks else [])
more-on true k p ps board ks is key rest =
    ap (λ t. map placed_key (if t then p ∷ filter (is_on board) ps else filter (is_on board) ps)) is ∙ ap (λ l. placed_key p ∷ l) rest ∙ ap (λ x. x ∷ ks) key
more-on false k p ps board ks is key rest = ap (λ t. map placed_key (if t then p ∷ filter (is_on board) ps else filter (is_on board) ps)) is ∙ rest

keys-on : (H : History) (minute number place : ℕ) (picks : List Pick) (b board : Name) → ArePlacedOn b picks
    → keys_in (is_on board) number minute place (map (take_of H minute) picks)
    ≡ (if same b board then map (λ k. (number, k)) (range_with_len place (length picks)) else [])
keys-on H minute number place [] b board all = by (same b board)
  where
    by : (there : Bool) → ◌≡◌ {A = List Key} [] (if there then [] else [])
    by true = refl
    by false = refl
keys-on H minute number place (p ∷ ps) b board ((d, m, s, is), all) =
    ap (λ purpose. map placed_key (
    filter (is_on board) (
    cons_option (
    placement_of (
    record { number = number; place = place; effective = minute; take = take_of H minute (record { reel = p.reel; quantity = p.quantity; purpose = purpose }) }))
    rest))) is
    ∙ more-on (same b board) (number, place) _ rest board (map (λ k. (number, k)) (range_with_len (place + 1) (length ps))) refl refl (keys-on H minute number (place + 1) ps b board all)
  where
    rest : List Placement
    rest =
        filter_map placement_of (
        map (λ (place, take). record { number = number; place = place; effective = minute; take = take }) (enumerate_from (place + 1) (map (take_of H minute) ps)))

-- ---- scraps and counts

keys-scrapped : (test : Placement → Bool) (H : History) (minute number : ℕ) (pieces : Name → ℕ) (machine slot : Name) (reels : List Name) (n place : ℕ)
    → keys_in test number minute place (map (take_of H minute) (scrap_picks pieces (Rejected machine slot) reels n)) ≡ []
keys-scrapped test H minute number pieces machine slot [] n place = refl
keys-scrapped test H minute number pieces machine slot (r ∷ rs) n place = by (nat_lt 0 (min n (pieces r))) (keys-scrapped test H minute number pieces machine slot rs (n - pieces r))
  where
    by : (b : Bool) → ((at : ℕ) → keys_in test number minute at (map (take_of H minute) (scrap_picks pieces (Rejected machine slot) rs (n - pieces r))) ≡ [])
        → keys_in test number minute place (
        map (take_of H minute) (
        (if b then record { reel = r; quantity = min n (pieces r); purpose = Rejected machine slot } ∷ [] else [])
        ++ scrap_picks pieces (Rejected machine slot) rs (n - pieces r)))
        ≡ []
    by true rest = rest (place + 1)
    by false rest = rest place

keys-counted : (test : Placement → Bool) (H : History) (minute number : ℕ) (pieces : Name → ℕ) (rows : List CountRow) (place : ℕ)
    → keys_in test number minute place (map (take_of H minute) (count_picks pieces rows)) ≡ []
keys-counted test H minute number pieces [] place = refl
keys-counted test H minute number pieces (row ∷ rows) place = by (nat_lt 0 (pieces row.reel - row.quantity)) (keys-counted test H minute number pieces rows)
  where
    by : (b : Bool) → ((at : ℕ) → keys_in test number minute at (map (take_of H minute) (count_picks pieces rows)) ≡ [])
        → keys_in test number minute place (
        map (take_of H minute) (
        (if b then record { reel = row.reel; quantity = pieces row.reel - row.quantity; purpose = Counted } ∷ [] else []) ++ count_picks pieces rows))
        ≡ []
    by true rest = rest (place + 1)
    by false rest = rest place

-- ---- any command

pub keys-installed : (H : History) (minute number count : ℕ) (board : Name) (command : Command) → count ≡ length (takes_by H minute command)
    → keys_in (λ p. same p.board board) number minute 1 (takes_by H minute command) ≡ install_keys board command (record { number = number; pieces = count })
keys-installed H minute number count board (MaterialsInstalled machine b designators) is =
    let picks = picks_of H (MaterialsInstalled machine b designators) in
    keys-on H minute number 1 picks b board (all-on (bench_of H machine b) [] designators tt)
    ∙ ap (λ k. if same b board then map (λ place. (number, place)) (range_with_len 1 k) else []) (sym (is ∙ length-map picks (take_of H minute)))
keys-installed H minute number count board (MaterialsScrapped machine slot quantity) is = keys-scrapped _ H minute number (left_of H) machine slot (tape_of H machine slot) quantity 1
keys-installed H minute number count board (CountsTaken counts) is = keys-counted _ H minute number (left_of H) counts 1
keys-installed H minute number count board _ is = refl
