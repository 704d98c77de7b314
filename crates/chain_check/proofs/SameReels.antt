-- Reels of two histories, by their views.
use Rattle.desk_types.proofs.Common.{[], ◌+◌, ◌-◌, ◌<◌, ◌∙◌, ◌≡◌, ◌≢◌, ap, arith, Bool, false, floor_life}
use Rattle.desk_types.proofs.Common.{found_of, History, if◌then◌else◌, is_some, is_unbaked, IsJudged, left_of}
use Rattle.desk_types.proofs.Common.{LevelWithLabel, life_left, limit_of, minutes_left, Name, None, now_of}
use Rattle.desk_types.proofs.Common.{Option, option_and_then, option_map, option_map_or, out_since, part_of}
use Rattle.desk_types.proofs.Common.{receipt_of, reel_view, refl, Some, subst, sym, true, view_of, ℕ}
use Rattle.desk_laws.proofs.Common.{IsSameReel, Minutes, quantity_of, Receipt, ReelView, Two, Unbaked}
use Rattle.desk_laws.proofs.Common.{Unlimited}
use Rattle.chain_check.proofs.SameMinutes.{life-parts, minutes-same}
use Rattle.chain_check.specs.Difference.{AreViewsDifferent, Changes, IsDifference, IsViewDifference}
use Rattle.chain_check.specs.Views.{IsCarried, IsSameView, quantity_in}
use Rattle.chain_check.specs.declared.difference.Difference.{Difference}
use Rattle.chain_check.specs.declared.difference.Difference.TheVariants.{Alternate, Board, Level, Life, Lot}
use Rattle.chain_check.specs.declared.difference.Difference.TheVariants.{Minute, NewWork, OldWork, Open, Part}
use Rattle.chain_check.specs.declared.difference.Difference.TheVariants.{Received, Reel, ReelPart, Remaining}
use Rattle.chain_check.specs.declared.difference.Difference.TheVariants.{Selection, Sheet, Slot}
use Rattle.desk_laws.proofs.Balance.{unreceived-empty}
use Rattle.desk_types.specs.View.{lot_of}
use Rattle.desk_types.specs.declared.level.Level.TheVariants.{One}
use Rattle.judging.proofs.FreeReels.{untold as unreceived}

-- The reel was received, and this is its view.
record IsReceived (H : History) (reel : Name) (view : ReelView) : Type 0 where
  receipt : Receipt
  is : receipt_of H reel ≡ Some receipt
  view_is : view_of H reel receipt ≡ view

received : (H : History) (reel : Name) (view : ReelView) → reel_view H reel ≡ Some view → IsReceived H reel view
received H reel view is = by (receipt_of H reel) refl is
  where
    by : (said : Option Receipt) → receipt_of H reel ≡ said → option_map (view_of H reel) said ≡ Some view → IsReceived H reel view
    by None says is = cc
    by (Some receipt) says is = record { receipt = receipt; is = says; view_is = ap (λ o. option_map_or (λ (v : ReelView). v) o view) is }

without-found : (q f n : ℕ) → (q + f) - f ≡ n → q ≡ n
without-found q f n is = omega (arith, is)

quantity-by : (H : History) (reel : Name) (view : ReelView) → reel_view H reel ≡ Some view → quantity_of H reel ≡ quantity_in view
quantity-by H reel view is =
    let it = received H reel view is in
    without-found (quantity_of H reel) (found_of H reel) (quantity_in view) (ap quantity_in it.view_is)

same-moisture : (a b : LevelWithLabel) → a.level ≡ b.level → a.label ≡ b.label → a ≡ b
same-moisture a b level label = λ j. record { level = level j; label = label j }

pub same-reel : (H H' : History) (reel : Name) (v w : ReelView) → IsJudged Two H → IsJudged Two H' → now_of H ≡ now_of H' → reel_view H reel ≡ Some v → reel_view H' reel ≡ Some w
    → IsSameView v w → IsSameReel H H' reel
same-reel H H' reel v w judged judged' now is_v is_w same =
    let old = received H reel v is_v in
    let new = received H' reel w is_w in
    let level : old.receipt.moisture.level ≡ new.receipt.moisture.level = ap (λ (x : ReelView). x.level) old.view_is ∙ same.level ∙ sym (ap (λ (x : ReelView). x.level) new.view_is) in
    let label : old.receipt.moisture.label ≡ new.receipt.moisture.label = ap (λ (x : ReelView). x.label) old.view_is ∙ same.label ∙ sym (ap (λ (x : ReelView). x.label) new.view_is) in
    let bag : is_some (out_since H reel) ≡ is_some (out_since H' reel) = ap (λ (x : ReelView). x.is_open) old.view_is ∙ same.is_open ∙ sym (ap (λ (x : ReelView). x.is_open) new.view_is) in
    let lives : floor_life H reel ≡ floor_life H' reel =
    ap (option_and_then (λ (r : Receipt). limit_of r.moisture.level r.moisture.label)) old.is
    ∙ ap (λ l. limit_of l old.receipt.moisture.label) level
    ∙ ap (limit_of new.receipt.moisture.level) label
    ∙ sym (ap (option_and_then (λ (r : Receipt). limit_of r.moisture.level r.moisture.label)) new.is) in
    let left : life_left H reel ≡ life_left H' reel = ap (λ (x : ReelView). x.left) old.view_is ∙ same.left ∙ sym (ap (λ (x : ReelView). x.left) new.view_is) in
    let parts = life-parts (is_unbaked H reel) (is_unbaked H' reel) (minutes_left H reel (now_of H)) (minutes_left H' reel (now_of H')) left in
    record {
      part = ap (λ o. option_map_or (λ (r : Receipt). r.part) o []) old.is
          ∙ ap (λ (x : ReelView). x.part) old.view_is ∙ same.part ∙ sym (ap (λ (x : ReelView). x.part) new.view_is)
          ∙ sym (ap (λ o. option_map_or (λ (r : Receipt). r.part) o []) new.is);
      lot = ap (λ o. option_map_or (λ (r : Receipt). r.lot) o []) old.is
          ∙ ap (λ (x : ReelView). x.lot) old.view_is ∙ same.lot ∙ sym (ap (λ (x : ReelView). x.lot) new.view_is)
          ∙ sym (ap (λ o. option_map_or (λ (r : Receipt). r.lot) o []) new.is);
      moisture = ap (option_map (λ (r : Receipt). r.moisture)) old.is
          ∙ ap (λ m. Some m) (same-moisture old.receipt.moisture new.receipt.moisture level label)
          ∙ sym (ap (option_map (λ (r : Receipt). r.moisture)) new.is);
      unbaked = parts.0;
      out = bag;
      minutes = λ baked minute le. minutes-same H H' reel minute judged judged' now lives bag (parts.1 baked) le;
    }

-- The reel was carried from one history to the other.
pub record IsReelCarried (H H' : History) (reel : Name) : Type 0 where
  pub left : left_of H reel ≡ left_of H' reel
  pub same : 0 < left_of H reel → IsSameReel H H' reel
  pub known : is_some (receipt_of H' reel) ≡ true → is_some (receipt_of H reel) ≡ true
  pub quantity : is_some (receipt_of H' reel) ≡ true → quantity_of H' reel ≡ left_of H reel

pub carried : (H H' : History) (reel : Name) → IsJudged Two H → IsJudged Two H' → now_of H ≡ now_of H' → IsCarried (reel_view H reel) (reel_view H' reel) → IsReelCarried H H' reel
carried H H' reel judged judged' now = by (reel_view H reel) (reel_view H' reel) refl refl
  where
    absent : {P : Type 0} (o : Option Receipt) → o ≡ None → is_some o ≡ true → P
    absent None none some = cc
    absent (Some r) none some = cc

    pieces : (G : History) (view : ReelView) → reel_view G reel ≡ Some view → left_of G reel ≡ view.remaining
    pieces G view is = ap (λ (x : ReelView). x.remaining) (received G reel view is).view_is

    by : (v w : Option ReelView) → reel_view H reel ≡ v → reel_view H' reel ≡ w → IsCarried v w → IsReelCarried H H' reel
    by None None is_v is_w is =
        let old = unreceived-empty H reel judged (unreceived H reel is_v) in
        let new = unreceived-empty H' reel judged' (unreceived H' reel is_w) in
        record {
          left = old ∙ sym new;
          same = λ some. absurd (omega (arith, old, some));
          known = absent (receipt_of H' reel) (unreceived H' reel is_w);
          quantity = absent (receipt_of H' reel) (unreceived H' reel is_w);
        }
    by None (Some w) is_v is_w is = absurd is
    by (Some v) None is_v is_w is =
        let old = pieces H v is_v in
        let new = unreceived-empty H' reel judged' (unreceived H' reel is_w) in
        record {
          left = old ∙ is ∙ sym new;
          same = λ some. absurd (omega (arith, old, is, some));
          known = absent (receipt_of H' reel) (unreceived H' reel is_w);
          quantity = absent (receipt_of H' reel) (unreceived H' reel is_w);
        }
    by (Some v) (Some w) is_v is_w is =
        let old = pieces H v is_v in
        let new = pieces H' w is_w in
        record {
          left = old ∙ is.0 ∙ sym new;
          same = λ some. same-reel H H' reel v w judged judged' now is_v is_w (is.2 (omega (arith, old, some)));
          known = λ _. ap is_some (received H reel v is_v).is;
          quantity = λ _. quantity-by H' reel w is_w ∙ is.1 ∙ sym old;
        }

-- ---- alike histories

pub same-life : (H H' : History) (reel : Name) → now_of H ≡ now_of H' → IsSameReel H H' reel → life_left H reel ≡ life_left H' reel
same-life H H' reel now same = by (is_unbaked H reel) (is_unbaked H' reel) same.unbaked (λ baked. same.minutes baked (now_of H) (omega arith) ∙ ap (minutes_left H' reel) now)
  where
    by : (b b' : Bool) → b ≡ b' → (b ≡ false → minutes_left H reel (now_of H) ≡ minutes_left H' reel (now_of H'))
        → (if b then Unbaked else option_map_or Minutes (minutes_left H reel (now_of H)) Unlimited) ≡ (if b' then Unbaked else option_map_or Minutes (minutes_left H' reel (now_of H')) Unlimited)
    by true true one left = refl
    by true false one left = cc
    by false true one left = cc
    by false false one left = ap (λ m. option_map_or Minutes m Unlimited) (left refl)

-- ---- differences

changes : {X : Type 0} (a b x y old new : X) → x ≡ a → y ≡ b → Changes a b old new → Changes x y old new
changes a b x y old new is is' change = record { old_is = is ∙ change.old_is; new_is = is' ∙ change.new_is; differ = change.differ }

pub reel-difference : (H H' : History) (reel : Name) (d : Difference) → IsJudged Two H → IsJudged Two H' → AreViewsDifferent reel (reel_view H reel) (reel_view H' reel) d
    → IsDifference H H' d
reel-difference H H' reel d judged judged' = by (reel_view H reel) (reel_view H' reel) refl refl
  where
    pieces : (G : History) (view : ReelView) → reel_view G reel ≡ Some view → left_of G reel ≡ view.remaining
    pieces G view is = ap (λ (x : ReelView). x.remaining) (received G reel view is).view_is

    part : (G : History) (view : ReelView) → reel_view G reel ≡ Some view → part_of G reel ≡ view.part
    part G view is = let it = received G reel view is in ap (λ o. option_map_or (λ (r : Receipt). r.part) o []) it.is ∙ ap (λ (x : ReelView). x.part) it.view_is

    lot : (G : History) (view : ReelView) → reel_view G reel ≡ Some view → lot_of G reel ≡ view.lot
    lot G view is = let it = received G reel view is in ap (λ o. option_map_or (λ (r : Receipt). r.lot) o []) it.is ∙ ap (λ (x : ReelView). x.lot) it.view_is

    bag : (G : History) (view : ReelView) → reel_view G reel ≡ Some view → is_some (out_since G reel) ≡ view.is_open
    bag G view is = ap (λ (x : ReelView). x.is_open) (received G reel view is).view_is

    life : (G : History) (view : ReelView) → reel_view G reel ≡ Some view → life_left G reel ≡ view.left
    life G view is = ap (λ (x : ReelView). x.left) (received G reel view is).view_is

    -- Two receipts with one moisture have the same level and label in their views.
    moisture : (v w : ReelView) → reel_view H reel ≡ Some v → reel_view H' reel ≡ Some w
        → option_map (λ (r : Receipt). r.moisture) (receipt_of H reel) ≡ option_map (λ (r : Receipt). r.moisture) (receipt_of H' reel)
        → (v.level ≡ w.level) × (v.label ≡ w.label)
    moisture v w is is' same =
        let old = received H reel v is in
        let new = received H' reel w is' in
        let one : Some old.receipt.moisture ≡ Some new.receipt.moisture =
        sym (ap (option_map (λ (x : Receipt). x.moisture)) old.is) ∙ same ∙ ap (option_map (λ (x : Receipt). x.moisture)) new.is in (
          sym (ap (λ (x : ReelView). x.level) old.view_is) ∙ ap (λ o. option_map_or (λ (m : LevelWithLabel). m.level) o One) one ∙ ap (λ (x : ReelView). x.level) new.view_is,
          sym (ap (λ (x : ReelView). x.label) old.view_is) ∙ ap (λ o. option_map_or (λ (m : LevelWithLabel). m.label) o 0) one ∙ ap (λ (x : ReelView). x.label) new.view_is,
        )

    views : (d : Difference) (v w : ReelView) → reel_view H reel ≡ Some v → reel_view H' reel ≡ Some w → IsViewDifference reel v w d → IsDifference H H' d
    views (Remaining r old new) v w is is' (same, change) =
        subst (λ x. Changes (left_of H x) (left_of H' x) old new) (sym same) (changes _ _ _ _ old new (pieces H v is) (pieces H' w is') change)
    views (Received r old new) v w is is' (same, change) =
        subst (λ x. (is_some (receipt_of H' x) ≡ true) × Changes (left_of H x) (quantity_of H' x) old new) (sym same)
        (ap is_some (received H' reel w is').is, changes _ _ _ _ old new (pieces H v is) (quantity-by H' reel w is') change)
    views (ReelPart r old new) v w is is' (same, some, change) =
        subst (λ x. (0 < left_of H x) × Changes (part_of H x) (part_of H' x) old new) (sym same)
        (subst (λ n. 0 < n) (sym (pieces H v is)) some, changes _ _ _ _ old new (part H v is) (part H' w is') change)
    views (Lot r old new) v w is is' (same, some, change) =
        subst (λ x. (0 < left_of H x) × Changes (lot_of H x) (lot_of H' x) old new) (sym same)
        (subst (λ n. 0 < n) (sym (pieces H v is)) some, changes _ _ _ _ old new (lot H v is) (lot H' w is') change)
    views (Level r) v w is is' (same, some, differ) =
        subst (λ x. (0 < left_of H x)
        × (option_map (λ (y : Receipt). y.moisture) (receipt_of H x) ≢ option_map (λ (y : Receipt). y.moisture) (receipt_of H' x))) (sym same)
        (subst (λ n. 0 < n) (sym (pieces H v is)) some, λ one. let both = moisture v w is is' one in differ both.0 both.1)
    views (Open r old new) v w is is' (same, some, change) =
        subst (λ x. (0 < left_of H x) × Changes (is_some (out_since H x)) (is_some (out_since H' x)) old new) (sym same)
        (subst (λ n. 0 < n) (sym (pieces H v is)) some, changes _ _ _ _ old new (bag H v is) (bag H' w is') change)
    views (Life r old new) v w is is' (same, some, change) =
        subst (λ x. (0 < left_of H x) × Changes (life_left H x) (life_left H' x) old new) (sym same)
        (subst (λ n. 0 < n) (sym (pieces H v is)) some, changes _ _ _ _ old new (life H v is) (life H' w is') change)
    views (Minute old new) v w is is' never = absurd never
    views (Part p) v w is is' never = absurd never
    views (Alternate p q) v w is is' never = absurd never
    views (Sheet p m) v w is is' never = absurd never
    views (Selection m) v w is is' never = absurd never
    views (OldWork b) v w is is' never = absurd never
    views (NewWork b) v w is is' never = absurd never
    views (Board b) v w is is' never = absurd never
    views (Reel r) v w is is' never = absurd never
    views (Slot m s) v w is is' never = absurd never

    by : (v w : Option ReelView) → reel_view H reel ≡ v → reel_view H' reel ≡ w → AreViewsDifferent reel v w d → IsDifference H H' d
    by None None is is' never = absurd never
    by None (Some w) is is' one =
        subst (IsDifference H H') (sym one) (ap is_some (received H' reel w is').is, ap is_some (unreceived H reel is))
    by (Some v) None is is' (some, one) =
        subst (IsDifference H H') (sym one) (record {
          old_is = pieces H v is;
          new_is = unreceived-empty H' reel judged' (unreceived H' reel is');
          differ = λ same. omega (arith, some, same);
        })
    by (Some v) (Some w) is is' one = views d v w is is' one
