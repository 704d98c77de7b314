-- The tables after a command that takes pieces.
use Rattle.desk_types.proofs.Common.{[], ◌+◌, ◌-◌, ◌==◌, ◌||◌, ◌∙◌, ◌∷◌, ◌≡◌, and_parts, ap, arith, baked_by}
use Rattle.desk_types.proofs.Common.{Bool, columns_of, false, filter, found_by, History, if◌then◌else◌}
use Rattle.desk_types.proofs.Common.{is_mounted, is_placed, IsJudged, last_put, left_of, List, ltb-false}
use Rattle.desk_types.proofs.Common.{ltb-true, map, mount_row, Name, nat_lt, ne_eqb, None, not, open_by}
use Rattle.desk_types.proofs.Common.{Option, option_map, option_or, or_parts, picks_of, pieces_by}
use Rattle.desk_types.proofs.Common.{pieces_picked, receipt_of, reel_row, refl, same, since_after, Some}
use Rattle.desk_types.proofs.Common.{sum_by-cons, sym, take_of, true, unwrap_or, view_of, zero-add, ℕ}
use Rattle.desk_laws.proofs.Common.{Command, Pick, Receipt, ReelRow, Two}
use Rattle.desk_laws.proofs.Mounted.{left_after, mounted-is}
use Rattle.desk_types.specs.{declared.row.MountRow.MountRow, declared.row.PlacementRow.PlacementRow}
use Rattle.state_rows.proofs.{MountRows.unreceived-unmounted, ReelRows.same-rows}
use Rattle.state_rows.specs.{After.placed_in, After.scrapped_in, After.step_row, After.used_after}
use Rattle.state_rows.specs.{EditsOf.is_picked, EditsOf.is_spent, EditsOf.less_row, EditsOf.pick_of}
use Rattle.state_rows.specs.{EditsOf.picked_rows}

pub picks-again : (H : History) (minute : ℕ) (picks : List Pick) → map pick_of (map (take_of H minute) picks) ≡ picks
picks-again H minute [] = refl
picks-again H minute (p ∷ ps) = ap (λ l. p ∷ l) (picks-again H minute ps)

pub unpicked : (picks : List Pick) (reel : Name) → is_picked picks reel ≡ false → pieces_picked picks reel ≡ 0
unpicked [] reel none = refl
unpicked (p ∷ ps) reel none =
    let both = or_parts (same p.reel reel) (is_picked ps reel) none in
    sum_by-cons (λ (x : Pick). if same x.reel reel then x.quantity else 0) p ps
    ∙ ap (λ b. (if b then p.quantity else 0) + pieces_picked ps reel) both.0
    ∙ zero-add (pieces_picked ps reel)
    ∙ unpicked ps reel both.1

pub unpicked-some : (test : Pick → Bool) (picks : List Pick) (reel : Name) → is_picked picks reel ≡ false → is_picked (filter test picks) reel ≡ false
unpicked-some test [] reel none = refl
unpicked-some test (p ∷ ps) reel none =
    let both = or_parts (same p.reel reel) (is_picked ps reel) none in by (test p) both.0 (unpicked-some test ps reel both.1)
  where
    by : (b : Bool) → same p.reel reel ≡ false → is_picked (filter test ps) reel ≡ false → is_picked (if b then p ∷ filter test ps else filter test ps) reel ≡ false
    by true here rest = ap (λ c. c || is_picked (filter test ps) reel) here ∙ rest
    by false here rest = rest

-- ---- reels

-- A command that does not concern the reel's bag, a bake or its pieces, and finds none.
pub record OnlyTakes (reel : Name) (command : Command) : Type 0 where
  pub out : open_by reel command ≡ None
  pub baked : baked_by reel command ≡ None
  pub told : pieces_by reel command ≡ None
  pub finds : (left : ℕ) → found_by left reel command ≡ 0

took-step : (minute : ℕ) (picks : List Pick) (reel : Name) (command : Command) (row took : ReelRow) → OnlyTakes reel command
    → took ≡ record row { placed = took.placed; scrapped = took.scrapped; remaining = took.remaining }
    → took.placed ≡ row.placed + placed_in picks reel → took.scrapped ≡ row.scrapped + scrapped_in picks reel → took.remaining ≡ row.remaining - pieces_picked picks reel
    → took ≡ step_row minute picks reel command row
took-step minute picks reel command row took only is placed scrapped remaining =
    is
    ∙ same-rows _ _ refl refl refl refl refl
    (let none = only.finds row.remaining in omega (arith, none))
    placed scrapped
    (remaining ∙ sym (ap (λ o. unwrap_or o (row.remaining - pieces_picked picks reel)) only.told))
    (sym (ap (λ o. used_after (unwrap_or o false) (open_by reel command) minute row.open_since row.used) only.baked ∙ ap (λ o. used_after false o minute row.open_since row.used) only.out))
    (sym (ap (λ o. since_after o minute row.open_since) only.out))
    (sym (ap (λ o. unwrap_or o row.baked) only.baked))

less-step : (minute : ℕ) (picks : List Pick) (reel : Name) (command : Command) (row : ReelRow) → row.reel ≡ reel → OnlyTakes reel command
    → less_row picks row ≡ step_row minute picks reel command row
less-step minute picks reel command row named only =
    took-step minute picks reel command row (less_row picks row) only refl
    (ap (λ r. row.placed + placed_in picks r) named) (ap (λ r. row.scrapped + scrapped_in picks r) named) (ap (λ r. row.remaining - pieces_picked picks r) named)

pub none-step : (minute : ℕ) (picks : List Pick) (reel : Name) (command : Command) (row : ReelRow) → is_picked picks reel ≡ false → OnlyTakes reel command
    → row ≡ step_row minute picks reel command row
none-step minute picks reel command row none only =
    took-step minute picks reel command row row only refl
    (let zero_of = unpicked _ reel (unpicked-some (λ (p : Pick). is_placed p.purpose) picks reel none) in omega (arith, zero_of))
    (let zero_of = unpicked _ reel (unpicked-some (λ (p : Pick). not (is_placed p.purpose)) picks reel none) in omega (arith, zero_of))
    (let zero_of = unpicked picks reel none in omega (arith, zero_of))

pub reels-took : (H : History) (minute : ℕ) (picks : List Pick) (command : Command) (r : Name) → OnlyTakes r command
    → option_or (picked_rows (reel_row H) picks r) (reel_row H r) ≡ option_map (step_row minute picks r command) (reel_row H r)
reels-took H minute picks command r only = by (is_picked picks r) refl (receipt_of H r)
  where
    by : (b : Bool) → is_picked picks r ≡ b → (said : Option Receipt)
        → option_or (if b then option_map (less_row picks) (option_map columns_of (option_map (view_of H r) said)) else None) (option_map columns_of (option_map (view_of H r) said))
        ≡ option_map (step_row minute picks r command) (option_map columns_of (option_map (view_of H r) said))
    by true is None = refl
    by false is None = refl
    by true is (Some receipt) = ap Some (less-step minute picks r command (columns_of (view_of H r receipt)) refl only)
    by false is (Some receipt) = ap Some (none-step minute picks r command (columns_of (view_of H r receipt)) is only)

-- ---- mounts

none-some : (n : ℕ) → nat_lt 0 n ≡ not (n == 0)
none-some n = by (nat_lt 0 n) refl
  where
    by : (b : Bool) → nat_lt 0 n ≡ b → b ≡ not (n == 0)
    by true some = let more = ltb-true 0 n some in sym (ap not (ne_eqb n 0 (λ is. omega (arith, is, more))))
    by false none = let few = ltb-false 0 n none in let is : n ≡ 0 = omega (arith, few) in sym (ap (λ k. not (k == 0)) is)

-- The rows of the mounted reels after it: a spent one is on no slot.
pub mounts-took : (H : History) (picks : List Pick) (command : Command) (r : Name) → IsJudged Two H → picks ≡ picks_of H command
    → left_after H command r ≡ left_of H r - pieces_picked (picks_of H command) r
    → (if is_spent (picked_rows (reel_row H) picks r) then None else mount_row H r)
    ≡ (if nat_lt 0 (left_after H command r) then mount_row H r else None)
mounts-took H picks command r judged taken after = by (is_mounted H r) refl
  where
    left : left_after H command r ≡ left_of H r - pieces_picked picks r
    left = after ∙ ap (λ ps. left_of H r - pieces_picked ps r) (sym taken)

    choose : (spent : Bool) (o : Option MountRow) → (if spent then None else o) ≡ (if not spent then o else None)
    choose true o = refl
    choose false o = refl

    of : (b : Bool) → is_picked picks r ≡ b → is_mounted H r ≡ true → (said : Option Receipt) → receipt_of H r ≡ said
        → (if is_spent (if b then option_map (less_row picks) (option_map columns_of (option_map (view_of H r) said)) else None) then None else mount_row H r)
        ≡ (if nat_lt 0 (left_after H command r) then mount_row H r else None)
    of b is mounted None none = let off = unreceived-unmounted H r judged none in cc
    of true is mounted (Some receipt) got =
        choose (left_of H r - pieces_picked picks r == 0) (mount_row H r)
        ∙ ap (λ c. if c then mount_row H r else None) (sym (none-some (left_of H r - pieces_picked picks r)) ∙ ap (nat_lt 0) (sym left))
    of false is mounted (Some receipt) got =
        let some : nat_lt 0 (left_of H r) ≡ true = (and_parts _ _ (sym (mounted-is H r judged) ∙ mounted)).1 in
        let zero_of = unpicked picks r is in
        let all : left_after H command r ≡ left_of H r = omega (arith, left, zero_of) in
        sym (ap (λ c. if c then mount_row H r else None) (ap (nat_lt 0) all ∙ some))

    empty : (b c : Bool) → (o : Option MountRow) → o ≡ None → (if b then None else o) ≡ (if c then o else None)
    empty true true o none = sym none
    empty true false o none = refl
    empty false true o none = refl
    empty false false o none = none

    by : (m : Bool) → is_mounted H r ≡ m
        → (if is_spent (picked_rows (reel_row H) picks r) then None else mount_row H r)
        ≡ (if nat_lt 0 (left_after H command r) then mount_row H r else None)
    by true mounted = of (is_picked picks r) refl mounted (receipt_of H r) refl
    by false off = empty _ _ (mount_row H r) (ap (λ b. if b then last_put H r else None) off)

-- ---- placements

pub placements-took : (b : Bool) (new old : Option PlacementRow) → (b ≡ true → old ≡ None) → option_or (if b then new else None) old ≡ (if b then new else old)
placements-took true new old none = ap (option_or new) (none refl) ∙ last new
  where
    last : (o : Option PlacementRow) → option_or o None ≡ o
    last None = refl
    last (Some x) = refl
placements-took false new old none = refl
