-- The designators of an accepted install, and its one pick for each.
use Rattle.desk_types.proofs.Common.{[], ⊤, ◌++◌, ◌∙◌, ◌∷◌, ◌≡◌, AllByRecursion, ap, append-nil, append_assoc}
use Rattle.desk_types.proofs.Common.{Bench, bench_of, Bool, command_refusal, designators_refusal, false, find}
use Rattle.desk_types.proofs.Common.{first_refusal, History, if◌then◌else◌, install_picks, install_refusal}
use Rattle.desk_types.proofs.Common.{is_in_work_on, is_none, is_placed_on, IsDistinct, length, List, list_any}
use Rattle.desk_types.proofs.Common.{Name, nat_lt, None, Option, option_and_then, option_map, option_to_list}
use Rattle.desk_types.proofs.Common.{pick_for, picks_of, pieces_picked, refl, same, slice_get, Some, subst}
use Rattle.desk_types.proofs.Common.{sym, true, ℕ}
use Rattle.desk_laws.proofs.Common.{Command, MaterialsInstalled, NotInWork, Pick, Placed, ReelShort, Refusal}
use Rattle.desk_laws.proofs.Common.{Two}
use Rattle.desk_laws.proofs.{Accepted.none-holds, Judgements.or-none, Tapes.one-more}
use Rattle.desk_types.specs.declared.answer.Refusal.TheVariants.{AlreadyPlaced, DesignatorNotOnSheet}
use Rattle.desk_types.specs.declared.answer.Refusal.TheVariants.{DesignatorTwice}

-- ---- picks in the order of designators

-- The picks are one piece for each designator in order, on this machine and board.
abbrev pub ArePlacedFor : Name → Name → List Name → List Pick → Type 0
ArePlacedFor machine board [] [] = ⊤
ArePlacedFor machine board (d ∷ ds) (p ∷ ps) = ((slot : Name) × (p.purpose ≡ Placed board d machine slot)) × ArePlacedFor machine board ds ps
ArePlacedFor machine board _ _ = ⊥

placed-push : (machine board : Name) (seen : List Name) (before : List Pick) (d slot : Name) (p : Pick) → ArePlacedFor machine board seen before
    → p.purpose ≡ Placed board d machine slot → ArePlacedFor machine board (seen ++ d ∷ []) (before ++ p ∷ [])
placed-push machine board [] [] d slot p all is = ((slot, is), tt)
placed-push machine board (x ∷ xs) (q ∷ qs) d slot p (first, all) is = (first, placed-push machine board xs qs d slot p all is)
placed-push machine board [] (q ∷ qs) d slot p all is = absurd all
placed-push machine board (x ∷ xs) [] d slot p all is = absurd all

pub placed-at : (m b : Name) (ds : List Name) (before ps : List Pick) (p : Pick) (board d machine slot : Name) → ArePlacedFor m b ds (before ++ p ∷ ps)
    → p.purpose ≡ Placed board d machine slot → slice_get ds (length before) ≡ Some d
placed-at m b [] [] ps p board d machine slot all is = absurd all
placed-at m b [] (q ∷ qs) ps p board d machine slot all is = absurd all
placed-at m b (x ∷ xs) [] ps p board d machine slot ((s, was), all) is = let one = sym was ∙ is in cc
placed-at m b (x ∷ xs) (q ∷ qs) ps p board d machine slot (first, all) is = placed-at m b xs qs ps p board d machine slot all is

-- ---- one message

module _ (bench : Bench) (placed : Name → Bool) where
  -- The tests of one designator.
  pub record IsPlaceable (before : List Pick) (seen : List Name) (d : Name) : Type 0 where
    pub once : list_any (same d) seen ≡ false
    pub new : placed d ≡ false
    pub there : is_none (pick_for bench before d) ≡ false

  abbrev pub next_picks : List Pick → Name → List Pick
  next_picks before d = before ++ option_to_list (pick_for bench before d)

  pub placeable : (before : List Pick) (seen : List Name) (d : Name) (ds : List Name) → designators_refusal bench placed before seen (d ∷ ds) ≡ None
      → IsPlaceable before seen d × (designators_refusal bench placed (next_picks before d) (seen ++ d ∷ []) ds ≡ None)
  placeable before seen d ds none =
      let both = or-none (first_refusal tests) (designators_refusal bench placed (next_picks before d) (seen ++ d ∷ []) ds) none in
      let all = none-holds tests both.0 in
      (record { once = all.1.0; new = all.1.1.0; there = all.1.1.1.0 }, both.1)
    where
      tests : List (Bool × Refusal)
      tests =
          (is_none (bench.slot_of d), DesignatorNotOnSheet d)
          ∷ (list_any (same d) seen, DesignatorTwice d)
          ∷ (placed d, AlreadyPlaced d)
          ∷ (is_none (pick_for bench before d), ReelShort d)
          ∷ []

  pub designators-differ : (before : List Pick) (seen ds : List Name) → designators_refusal bench placed before seen ds ≡ None → IsDistinct same seen
      → IsDistinct same (seen ++ ds)
  designators-differ before seen [] none distinct = subst (IsDistinct same) (sym (append-nil seen)) distinct
  designators-differ before seen (d ∷ ds) none distinct =
      let both = placeable before seen d ds none in
      subst (IsDistinct same) (append_assoc seen (d ∷ []) ds)
      (designators-differ (next_picks before d) (seen ++ d ∷ []) ds both.1 (one-more seen d distinct both.0.once))

  pub designators-new : (before : List Pick) (seen ds : List Name) → designators_refusal bench placed before seen ds ≡ None
      → AllByRecursion (λ d. placed d ≡ false) ds
  designators-new before seen [] none = tt
  designators-new before seen (d ∷ ds) none =
      let both = placeable before seen d ds none in (both.0.new, designators-new (next_picks before d) (seen ++ d ∷ []) ds both.1)

  next-placed : (before : List Pick) (seen : List Name) (d : Name) → is_none (pick_for bench before d) ≡ false
      → ArePlacedFor bench.machine bench.board seen before → ArePlacedFor bench.machine bench.board (seen ++ d ∷ []) (next_picks before d)
  next-placed before seen d some all = by (bench.slot_of d) some
    where
      pick : Name → Name → Pick
      pick slot reel = record { reel = reel; quantity = 1; purpose = Placed bench.board d bench.machine slot }

      found : (slot : Name) (reel : Option Name) → is_none (option_map (pick slot) reel) ≡ false
          → ArePlacedFor bench.machine bench.board (seen ++ d ∷ []) (before ++ option_to_list (option_map (pick slot) reel))
      found slot None some = cc
      found slot (Some reel) some = placed-push bench.machine bench.board seen before d slot (pick slot reel) all refl

      by : (slot : Option Name) → is_none (option_and_then (λ s. option_map (pick s) (find (λ r. nat_lt (pieces_picked before r) (bench.pieces r)) (bench.tape s))) slot) ≡ false
          → ArePlacedFor bench.machine bench.board (seen ++ d ∷ [])
          (before ++ option_to_list (option_and_then (λ s. option_map (pick s) (find (λ r. nat_lt (pieces_picked before r) (bench.pieces r)) (bench.tape s))) slot))
      by None some = cc
      by (Some slot) some = found slot (find (λ r. nat_lt (pieces_picked before r) (bench.pieces r)) (bench.tape slot)) some

  pub install-placed : (before : List Pick) (seen ds : List Name) → designators_refusal bench placed before seen ds ≡ None
      → ArePlacedFor bench.machine bench.board seen before → ArePlacedFor bench.machine bench.board (seen ++ ds) (install_picks bench before ds)
  unfolding install_picks
  install-placed before seen [] none all = subst (λ names. ArePlacedFor bench.machine bench.board names before) (sym (append-nil seen)) all
  install-placed before seen (d ∷ ds) none all =
      let both = placeable before seen d ds none in
      subst (λ names. ArePlacedFor bench.machine bench.board names (install_picks bench (next_picks before d) ds)) (append_assoc seen (d ∷ []) ds)
      (install-placed (next_picks before d) (seen ++ d ∷ []) ds both.1 (next-placed before seen d both.0.there all))

-- ---- one command

pub installable : (H : History) (machine board : Name) (ds : List Name) → install_refusal H machine board ds ≡ None
    → designators_refusal (bench_of H machine board) (is_placed_on H board) [] [] ds ≡ None
unfolding install_refusal
installable H machine board ds none = by (is_in_work_on H machine board) none
  where
    by : (b : Bool) → (if b then designators_refusal (bench_of H machine board) (is_placed_on H board) [] [] ds else Some (NotInWork board)) ≡ None
        → designators_refusal (bench_of H machine board) (is_placed_on H board) [] [] ds ≡ None
    by true none = none
    by false none = cc

pub each-placed : (H : History) (minute : ℕ) (command : Command) (machine board : Name) (ds : List Name) → command_refusal Two H minute command ≡ None
    → command ≡ MaterialsInstalled machine board ds → ArePlacedFor machine board ds (picks_of H command)
unfolding command_refusal
each-placed H minute command machine board ds none is =
    subst (λ c. ArePlacedFor machine board ds (picks_of H c)) (sym is)
    (install-placed (bench_of H machine board) (is_placed_on H board) [] [] ds
    (installable H machine board ds (sym (ap (command_refusal Two H minute) is) ∙ none)) tt)

pub named-once : (H : History) (minute : ℕ) (command : Command) (machine board : Name) (ds : List Name) → command_refusal Two H minute command ≡ None
    → command ≡ MaterialsInstalled machine board ds → IsDistinct same ds
unfolding command_refusal IsDistinct
named-once H minute command machine board ds none is =
    designators-differ (bench_of H machine board) (is_placed_on H board) [] [] ds
    (installable H machine board ds (sym (ap (command_refusal Two H minute) is) ∙ none)) tt
