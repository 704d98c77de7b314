-- The state of a machine's slots after each piece.
use Rattle.desk_types.proofs.Common.{[], ◌++◌, ◌+◌, ◌-◌, ◌<◌, ◌==◌, ◌∙◌, ◌∷◌, ◌≡◌, ◌≤◌, AllByRecursion, ap}
use Rattle.desk_types.proofs.Common.{append_assoc, arith, Bool, BTreeMap, cond, Contains-from_any, eqb-true}
use Rattle.desk_types.proofs.Common.{false, History, IfSome, IsDistinct, IsJudged, left_of, List}
use Rattle.desk_types.proofs.Common.{list_any-append, live_on, lt-ltb, Name, nat_lt, None, Option, option_map}
use Rattle.desk_types.proofs.Common.{option_map_or, or_left, or_parts, or_right, pieces_picked, refl, same}
use Rattle.desk_types.proofs.Common.{same-refl, same-true, Some, subst, sym, true, ℕ}
use Rattle.desk_laws.proofs.Common.{Pick, Two}
use Rattle.desk_laws.proofs.{Distinct.all-append, Mounts.has, Picks.pieces_picked-append, Places.one-slot}
use Rattle.desk_types.proofs.Keys.{name-changed}
use Rattle.judging.specs.{Placing.feed_at, Placing.given_by, Placing.IsFed, Placing.IsFeeding}
use Rattle.judging.specs.{Placing.live_next, Placing.live_past, Placing.one_less, Placing.reel_in_hand}
use Rattle.judging.specs.{declared.placing.Feed.Feed, declared.placing.Given.TheVariants.Nothing}
use Rattle.judging.specs.{declared.placing.Given.TheVariants.Reel}
use Rattle.std.proofs.lemmas.Bool.{eqb-false, le-ltb}
use Rattle.std.specs.List.{filter, find}

-- ---- one more pick

pieces_picked-one : (p : Pick) (reel : Name) → pieces_picked (p ∷ []) reel ≡ cond (same p.reel reel) p.quantity 0
pieces_picked-one p reel = by (same p.reel reel)
  where
    by : (b : Bool) → 0 + cond b p.quantity 0 ≡ cond b p.quantity 0
    by true = omega arith
    by false = refl

module _ (picks : List Pick) (p : Pick) where
  picked-grows : (reel : Name) → pieces_picked picks reel ≤ pieces_picked (picks ++ p ∷ []) reel
  picked-grows reel = omega (arith, pieces_picked-append picks (p ∷ []) reel)

  picked-same : (reel : Name) → same p.reel reel ≡ false → pieces_picked (picks ++ p ∷ []) reel ≡ pieces_picked picks reel
  picked-same reel away =
      let none : pieces_picked (p ∷ []) reel ≡ 0 = pieces_picked-one p reel ∙ ap (λ b. cond b p.quantity 0) away in
      omega (arith, pieces_picked-append picks (p ∷ []) reel, none)

  picked-own : (reel : Name) → p.reel ≡ reel → pieces_picked (picks ++ p ∷ []) reel ≡ pieces_picked picks reel + p.quantity
  picked-own reel own =
      let one : pieces_picked (p ∷ []) reel ≡ p.quantity = pieces_picked-one p reel ∙ ap (λ b. cond b p.quantity 0) (ap (λ x. same x reel) own ∙ same-refl reel) in
      omega (arith, pieces_picked-append picks (p ∷ []) reel, one)

  spent-still : (pieces : Name → ℕ) (reels : List Name) → AllByRecursion (λ r. pieces r ≤ pieces_picked picks r) reels → AllByRecursion (λ r. pieces r ≤ pieces_picked (picks ++ p ∷ []) r) reels
  spent-still pieces [] all = tt
  spent-still pieces (r ∷ rs) (none, all) = let more = picked-grows r in (omega (arith, none, more), spent-still pieces rs all)

  untouched-still : (reels : List Name) → AllByRecursion (λ r. same p.reel r ≡ false) reels → AllByRecursion (λ r. pieces_picked picks r ≡ 0) reels
      → AllByRecursion (λ r. pieces_picked (picks ++ p ∷ []) r ≡ 0) reels
  untouched-still [] away all = tt
  untouched-still (r ∷ rs) (other, away) (none, all) = (picked-same r other ∙ none, untouched-still rs away all)

all-other : (x : Name) (reels : List Name) → has reels x ≡ false → AllByRecursion (λ r. same x r ≡ false) reels
all-other x [] absent = tt
all-other x (r ∷ rs) absent = let both = or_parts (same x r) (has rs x) absent in (both.0, all-other x rs both.1)

passed-others : (before : List Name) (x : Name) (after : List Name) → IsDistinct same (before ++ x ∷ after) → AllByRecursion (λ r. same x r ≡ false) after
unfolding IsDistinct
passed-others [] x after distinct = distinct.0
passed-others (b ∷ bs) x after distinct = passed-others bs x after distinct.1

-- ---- one slot

-- The current reel, if any, has nothing left.
abbrev pub IsEmptyHanded : Option Feed → Type 0
IsEmptyHanded feed = IfSome feed (λ f. f.pieces ≡ 0)

module _ (pieces : Name → ℕ) (live reels : List Name) (picks : List Pick) where
  fed-elsewhere : (feed : Option Feed) (p : Pick) → has live p.reel ≡ false → IsFed pieces live reels picks feed → IsFed pieces live reels (picks ++ p ∷ []) feed
  fed-elsewhere feed p absent is =
      let next = live_next pieces reels feed in
      let apart = or_parts (has is.spent p.reel) (has (reel_in_hand feed ++ next) p.reel)
      (sym (list_any-append (same p.reel) is.spent (reel_in_hand feed ++ next)) ∙ ap (λ rs. has rs p.reel) (sym is.reels_are) ∙ absent) in
      let others = or_parts (has (reel_in_hand feed) p.reel) (has next p.reel) (sym (list_any-append (same p.reel) (reel_in_hand feed) next) ∙ apart.1) in
      record {
        spent = is.spent;
        reels_are = is.reels_are;
        none_left = spent-still picks p pieces is.spent is.none_left;
        in_hand = hand feed (all-other p.reel (reel_in_hand feed) others.0) is.in_hand;
        untouched = untouched-still picks p next (all-other p.reel next others.1) is.untouched;
      }
    where
      hand : (o : Option Feed) → AllByRecursion (λ r. same p.reel r ≡ false) (reel_in_hand o) → IfSome o (λ f. f.pieces ≡ pieces f.reel - pieces_picked picks f.reel)
          → IfSome o (λ f. f.pieces ≡ pieces f.reel - pieces_picked (picks ++ p ∷ []) f.reel)
      hand None away was = tt
      hand (Some f) away was = was ∙ ap (λ n. pieces f.reel - n) (sym (picked-same picks p f.reel away.0))

  fed-here : (f : Feed) (p : Pick) → p.reel ≡ f.reel → p.quantity ≡ 1 → IsDistinct same live → IsFed pieces live reels picks (Some f)
      → IsFed pieces live reels (picks ++ p ∷ []) (Some (one_less f))
  fed-here f p own one distinct is =
      let next = live_past pieces reels f.passed in
      let away = subst (λ x. AllByRecursion (λ r. same x r ≡ false) next) (sym own) (passed-others is.spent f.reel next (subst (IsDistinct same) is.reels_are distinct)) in
      record {
        spent = is.spent;
        reels_are = is.reels_are;
        none_left = spent-still picks p pieces is.spent is.none_left;
        in_hand = omega (arith, is.in_hand, picked-own picks p f.reel own, one);
        untouched = untouched-still picks p next away is.untouched;
      }

  search-past : (spent rest : List Name) → AllByRecursion (λ r. pieces r ≤ pieces_picked picks r) spent
      → find (λ r. nat_lt (pieces_picked picks r) (pieces r)) (spent ++ rest) ≡ find (λ r. nat_lt (pieces_picked picks r) (pieces r)) rest
  search-past [] rest all = refl
  search-past (r ∷ rs) rest (none, all) =
      ap (λ b. cond b (Some r) (find (λ x. nat_lt (pieces_picked picks x) (pieces x)) (rs ++ rest))) (le-ltb (pieces_picked picks r) (pieces r) none) ∙ search-past rs rest all

  pub fed-front : (f : Feed) → 0 < f.pieces → IsFed pieces live reels picks (Some f) → find (λ r. nat_lt (pieces_picked picks r) (pieces r)) live ≡ Some f.reel
  fed-front f some is =
      let next = live_past pieces reels f.passed in
      let left : pieces_picked picks f.reel < pieces f.reel = omega (arith, is.in_hand, some) in
      ap (find (λ r. nat_lt (pieces_picked picks r) (pieces r))) is.reels_are
      ∙ search-past is.spent (f.reel ∷ next) is.none_left
      ∙ ap (λ b. cond b (Some f.reel) (find (λ r. nat_lt (pieces_picked picks r) (pieces r)) next)) (lt-ltb (pieces_picked picks f.reel) (pieces f.reel) left)

  hand-spent : (feed : Option Feed) → IsEmptyHanded feed → IfSome feed (λ f. f.pieces ≡ pieces f.reel - pieces_picked picks f.reel)
      → AllByRecursion (λ r. pieces r ≤ pieces_picked picks r) (reel_in_hand feed)
  hand-spent None none was = tt
  hand-spent (Some f) none was = (omega (arith, none, was), tt)

  all-spent : (feed : Option Feed) → IsEmptyHanded feed → (is : IsFed pieces live reels picks feed) → AllByRecursion (λ r. pieces r ≤ pieces_picked picks r) (is.spent ++ reel_in_hand feed)
  all-spent feed none is = all-append (λ r. pieces r ≤ pieces_picked picks r) is.spent (reel_in_hand feed) is.none_left (hand-spent feed none is.in_hand)

  reels-past : (feed : Option Feed) (is : IsFed pieces live reels picks feed) → live ≡ (is.spent ++ reel_in_hand feed) ++ live_next pieces reels feed
  reels-past feed is = is.reels_are ∙ sym (append_assoc is.spent (reel_in_hand feed) (live_next pieces reels feed))

  pub fed-next : (feed : Option Feed) (f : Feed) → IsEmptyHanded feed → f.pieces ≡ pieces f.reel → live_next pieces reels feed ≡ f.reel ∷ live_past pieces reels f.passed
      → IsFed pieces live reels picks feed → IsFed pieces live reels picks (Some f)
  fed-next feed f none told next is =
      let untouched = subst (AllByRecursion (λ r. pieces_picked picks r ≡ 0)) next is.untouched in
      record {
        spent = is.spent ++ reel_in_hand feed;
        reels_are = reels-past feed is ∙ ap (λ rs. (is.spent ++ reel_in_hand feed) ++ rs) next;
        none_left = all-spent feed none is;
        in_hand = omega (arith, told, untouched.0);
        untouched = untouched.1;
      }

  pub fed-none : (feed : Option Feed) → IsEmptyHanded feed → live_next pieces reels feed ≡ [] → IsFed pieces live reels picks feed
      → find (λ r. nat_lt (pieces_picked picks r) (pieces r)) live ≡ None
  fed-none feed none next is =
      ap (find (λ r. nat_lt (pieces_picked picks r) (pieces r))) (reels-past feed is)
      ∙ search-past (is.spent ++ reel_in_hand feed) (live_next pieces reels feed) (all-spent feed none is)
      ∙ ap (find (λ r. nat_lt (pieces_picked picks r) (pieces r))) next

-- ---- all slots of a machine

one-place : (H : History) (machine slot s reel : Name) → IsJudged Two H → has (live_on H machine slot) reel ≡ true → has (live_on H machine s) reel ≡ true → same slot s ≡ true
one-place H machine slot s reel judged here there =
    let one = one-slot H machine slot machine s reel judged (Contains-from_any same-true reel (live_on H machine slot) here)
    (Contains-from_any same-true reel (live_on H machine s) there) in
    ap (λ x. same x s) one.1 ∙ same-refl s

hand-there : (spent next : List Name) (reel : Name) → has (spent ++ reel ∷ next) reel ≡ true
hand-there spent next reel =
    list_any-append (same reel) spent (reel ∷ next) ∙ or_right (has spent reel) (has (reel ∷ next) reel) (or_left (same reel reel) (has next reel) (same-refl reel))

pub feeds-first : (live : Name → List Name) (pieces : Name → ℕ) (reels : Name → List Name) (feeds : BTreeMap Name Feed)
    → ((slot : Name) → filter (λ reel. nat_lt 0 (pieces reel)) (reels slot) ≡ live slot) → ((slot : Name) → feed_at feeds slot ≡ None)
    → IsFeeding live pieces reels [] feeds
feeds-first live pieces reels feeds are empty = λ slot. subst (λ o. IsFed pieces (live slot) (reels slot) [] o) (sym (empty slot)) (record {
  spent = [];
  reels_are = sym (are slot);
  none_left = tt;
  in_hand = tt;
  untouched = nothing (live_past pieces (reels slot) 0);
})
  where
    nothing : (rs : List Name) → AllByRecursion (λ r. pieces_picked [] r ≡ 0) rs
    nothing [] = tt
    nothing (r ∷ rs) = (refl, nothing rs)

pub feeds-next : (H : History) (machine : Name) (reels : Name → List Name) (picks : List Pick) (old new : BTreeMap Name Feed) (slot : Name) (f : Feed) (p : Pick)
    → IsJudged Two H → ((s : Name) → IsDistinct same (live_on H machine s)) → p.reel ≡ f.reel → p.quantity ≡ 1
    → IsFeeding (live_on H machine) (left_of H) reels picks old → IsFed (left_of H) (live_on H machine slot) (reels slot) picks (Some f)
    → ((s : Name) → feed_at new s ≡ cond (same slot s) (Some (one_less f)) (feed_at old s))
    → IsFeeding (live_on H machine) (left_of H) reels (picks ++ p ∷ []) new
feeds-next H machine reels picks old new slot f p judged distinct own one is here written = λ s.
    subst (λ o. IsFed (left_of H) (live_on H machine s) (reels s) (picks ++ p ∷ []) o) (sym (written s)) (by s (same slot s) refl)
  where
    there : has (live_on H machine slot) p.reel ≡ true
    there = ap (has (live_on H machine slot)) own ∙ ap (λ rs. has rs f.reel) here.reels_are ∙ hand-there here.spent (live_past (left_of H) (reels slot) f.passed) f.reel

    absent : (s : Name) (b : Bool) → has (live_on H machine s) p.reel ≡ b → same slot s ≡ false → has (live_on H machine s) p.reel ≡ false
    absent s true also other = let again = one-place H machine slot s p.reel judged there also in cc
    absent s false not_there other = not_there

    by : (s : Name) (b : Bool) → same slot s ≡ b → IsFed (left_of H) (live_on H machine s) (reels s) (picks ++ p ∷ []) (cond b (Some (one_less f)) (feed_at old s))
    by s true one_slot =
        subst (λ x. IsFed (left_of H) (live_on H machine x) (reels x) (picks ++ p ∷ []) (Some (one_less f))) (same-true slot s one_slot)
        (fed-here (left_of H) (live_on H machine slot) (reels slot) picks f p own one (distinct slot) here)
    by s false other =
        fed-elsewhere (left_of H) (live_on H machine s) (reels s) picks (feed_at old s) p (absent s (has (live_on H machine s) p.reel) refl other) (is s)

-- ---- a piece from the current reel

pub given_by-reel : (o : Option Feed) (reel : Name) → given_by o ≡ Reel reel → (f : Feed) × (o ≡ Some f) × (reel ≡ f.reel) × (0 < f.pieces)
given_by-reel None reel is = cc
given_by-reel (Some f) reel is = by (f.pieces == 0) refl is
  where
    by : (b : Bool) → (f.pieces == 0) ≡ b → cond b (Nothing f.passed) (Reel f.reel) ≡ Reel reel → (g : Feed) × (Some f ≡ Some g) × (reel ≡ g.reel) × (0 < g.pieces)
    by true none is = cc
    by false some is = let more = eqb-false f.pieces 0 some in (f, refl, cc, omega (arith, more))

pub given_by-nothing : (o : Option Feed) (past : ℕ) → given_by o ≡ Nothing past → IsEmptyHanded o × (past ≡ option_map_or (λ (f : Feed). f.passed) o 0)
given_by-nothing None past is = (tt, cc)
given_by-nothing (Some f) past is = by (f.pieces == 0) refl is
  where
    by : (b : Bool) → (f.pieces == 0) ≡ b → cond b (Nothing f.passed) (Reel f.reel) ≡ Nothing past → (f.pieces ≡ 0) × (past ≡ f.passed)
    by true none is = (eqb-true f.pieces 0 none, cc)
    by false some is = cc

-- ---- updates of the map

pub less-written : (old : BTreeMap Name Feed) (slot : Name) (f less : Feed) → feed_at old slot ≡ Some f → less ≡ one_less f → (s : Name)
    → cond (same slot s) (Some less) (feed_at old s) ≡ cond (same slot s) (option_map one_less (feed_at old s)) (feed_at old s)
less-written old slot f less was is s = name-changed (Some f) (Some less) (feed_at old) (option_map one_less) slot was (ap Some (sym is)) s

pub none-less : (f : Feed) → f.pieces ≡ 0 → f ≡ one_less f
none-less f none = ap (λ n. record { reel = f.reel; pieces = n; passed = f.passed }) (let same_pieces : f.pieces ≡ f.pieces - 1 = omega (arith, none) in same_pieces)

pub other-written : (old left : BTreeMap Name Feed) (slot : Name) (f : Feed) (s : Name)
    → feed_at left s ≡ cond (same slot s) (option_map one_less (feed_at old s)) (feed_at old s)
    → cond (same slot s) (Some f) (feed_at left s) ≡ cond (same slot s) (Some f) (feed_at old s)
other-written old left slot f s was = by (same slot s) was
  where
    by : (b : Bool) → feed_at left s ≡ cond b (option_map one_less (feed_at old s)) (feed_at old s) → cond b (Some f) (feed_at left s) ≡ cond b (Some f) (feed_at old s)
    by true was = refl
    by false was = was
