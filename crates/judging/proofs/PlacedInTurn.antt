-- Designators placed one after another.
use Rattle.desk_types.proofs.Common.{[], ◌++◌, ◌+◌, ◌<◌, ◌∙◌, ◌∷◌, ◌≡◌, ap, Bench, Bool, designators_refusal}
use Rattle.desk_types.proofs.Common.{drop, drop-next, false, get_or, install_picks, length, List, Name}
use Rattle.desk_types.proofs.Common.{nat_lt, None, Option, option_or, option_to_list, pick_for, pieces_picked}
use Rattle.desk_types.proofs.Common.{refl, Some, sym, take, take-next, ℕ}
use Rattle.desk_laws.proofs.Common.{Pick, ReelShort, Refusal}
use Rattle.desk_types.specs.Refusals.{designator_refusal}
use Rattle.judging.specs.Placing.{Before, next_refusal, pick_of}
use Rattle.judging.specs.declared.placing.Feeder.{Feeder}
use Rattle.std.specs.List.{find}

-- ---- one more designator

-- The state before the designator at a place, after these picks.
abbrev pub before_at : List Name → List Pick → ℕ → Before
before_at ds picks i = record { picks = picks; designators = take i ds }

module _ (bench : Bench) (placed : Name → Bool) (ds : List Name) where
  pub refusal-next : (picks : List Pick) (i : ℕ) (d : Name) (pick : Pick) → i < length ds → d ≡ get_or ds i d
      → next_refusal bench placed (before_at ds picks i) d ≡ None → pick_for bench picks d ≡ Some pick
      → designators_refusal bench placed (picks ++ pick ∷ []) (take (i + 1) ds) (drop (i + 1) ds) ≡ designators_refusal bench placed picks (take i ds) (drop i ds)
  refusal-next picks i d pick inside is none pieces_picked =
      ap (λ before. designators_refusal bench placed (picks ++ pick ∷ []) before (drop (i + 1) ds)) (take-next ds i d inside is)
      ∙ ap (λ o. designators_refusal bench placed (picks ++ option_to_list o) (take i ds ++ d ∷ []) (drop (i + 1) ds)) (sym pieces_picked)
      ∙ ap (λ o. option_or o (designators_refusal bench placed (picks ++ option_to_list (pick_for bench picks d)) (take i ds ++ d ∷ []) (drop (i + 1) ds))) (sym none)
      ∙ ap (designators_refusal bench placed picks (take i ds)) (sym (drop-next ds i d inside is))

  pub refusal-here : (picks : List Pick) (i : ℕ) (d : Name) (refusal : Refusal) → i < length ds → d ≡ get_or ds i d
      → next_refusal bench placed (before_at ds picks i) d ≡ Some refusal → designators_refusal bench placed picks (take i ds) (drop i ds) ≡ Some refusal
  refusal-here picks i d refusal inside is faulty =
      ap (designators_refusal bench placed picks (take i ds)) (drop-next ds i d inside is)
      ∙ ap (λ o. option_or o (designators_refusal bench placed (picks ++ option_to_list (pick_for bench picks d)) (take i ds ++ d ∷ []) (drop (i + 1) ds))) faulty

  pub picks-next : (picks : List Pick) (i : ℕ) (d : Name) (pick : Pick) → i < length ds → d ≡ get_or ds i d
      → pick_for bench picks d ≡ Some pick → install_picks bench (picks ++ pick ∷ []) (drop (i + 1) ds) ≡ install_picks bench picks (drop i ds)
  unfolding install_picks
  picks-next picks i d pick inside is pieces_picked =
      ap (λ o. install_picks bench (picks ++ option_to_list o) (drop (i + 1) ds)) (sym pieces_picked)
      ∙ ap (install_picks bench picks) (sym (drop-next ds i d inside is))

pub picks-end : (bench : Bench) (picks : List Pick) → install_picks bench picks [] ≡ picks
unfolding install_picks
picks-end bench picks = refl

-- ---- one designator

pub pick-found : (bench : Bench) (before : Before) (d : Name) (piece : Feeder) → bench.slot_of d ≡ Some piece.slot
    → find (λ reel. nat_lt (pieces_picked before.picks reel) (bench.pieces reel)) (bench.tape piece.slot) ≡ Some piece.reel
    → pick_for bench before.picks d ≡ Some (pick_of bench d piece)
pick-found bench before d piece slot reel = rw (slot, reel)

pub not-refused : (d slot : Name) (found : Option Name) (twice placed : Bool) (pieces_picked : Option Pick) (pick : Pick) → found ≡ Some slot → twice ≡ false → placed ≡ false
    → pieces_picked ≡ Some pick → designator_refusal d found twice placed pieces_picked ≡ None
not-refused d slot found twice placed pieces_picked pick on once new some = rw (on, once, new, some)

pub pick-none : (bench : Bench) (before : Before) (d slot : Name) → bench.slot_of d ≡ Some slot
    → find (λ reel. nat_lt (pieces_picked before.picks reel) (bench.pieces reel)) (bench.tape slot) ≡ None → pick_for bench before.picks d ≡ None
pick-none bench before d slot is none = rw (is, none)

pub refused-short : (d slot : Name) (found : Option Name) (twice placed : Bool) (pieces_picked : Option Pick) → found ≡ Some slot → twice ≡ false → placed ≡ false
    → pieces_picked ≡ None → designator_refusal d found twice placed pieces_picked ≡ Some (ReelShort d)
refused-short d slot found twice placed pieces_picked on once new none = rw (on, once, new, none)
