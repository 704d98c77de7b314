-- Free reels in their order, whichever is looked at first.
use Rattle.desk_types.proofs.Common.{[], ap, Bool, BTreeMap, by_name, by_turn, CmpEqualImpliesEq}
use Rattle.desk_types.proofs.Common.{cond, cons_option, Equal, exact_bytes, false, filter, flat_map}
use Rattle.desk_types.proofs.Common.{Greater, History, in_order, insert_key, is_allowed}
use Rattle.desk_types.proofs.Common.{is_alternate, is_at, is_at-by_name, is_expired, is_free}
use Rattle.desk_types.proofs.Common.{is_mounted, is_some, is_unbaked, IsJudged, IsTotalOrder}
use Rattle.desk_types.proofs.Common.{left_of, Less, life_left, List, list_any, list_any-append}
use Rattle.desk_types.proofs.Common.{list_any-same, map, Name, nat_cmp, nat_cmp_total}
use Rattle.desk_types.proofs.Common.{nat_list_cmp_total, nat_lt, None, not, now_of, on_total}
use Rattle.desk_types.proofs.Common.{Option, option_map, option_map_or, option_or, or_left}
use Rattle.desk_types.proofs.Common.{or_right, Ordering, ordering_then, part_of, receipt_by}
use Rattle.desk_types.proofs.Common.{receipt_of, received_by, reels_received, refl, same, same-sym}
use Rattle.desk_types.proofs.Common.{same-true, Some, subst, sym, then_total, true, ℕ, ◌&&◌, ◌++◌}
use Rattle.desk_types.proofs.Common.{◌||◌, ◌∙◌, ◌∷◌, ◌≡◌}
use Rattle.desk_laws.proofs.Common.{Command, Left, Minutes, Receipt, ReelReceived, Two, Unbaked, Unlimited}
use Rattle.desk_laws.proofs.Mounts.{has, has-filter}
use Rattle.desk_types.specs.Free.{by_left}
use Rattle.feeder_state.{proofs.AtRest.rests-received, proofs.NamesInOrder.in_order-same}
use Rattle.feeder_state.{specs.Sets.is_name_at, specs.Sets.names_at, specs.Resting.rests}
use Rattle.judging.{proofs.FreeReels.turn-put, specs.Turns.by_life, specs.Turns.if_free, specs.Turns.turn_of}
use Rattle.std.specs.BTreeMap as tree
use Rattle.std.{specs.BTreeSet.BTreeSet, specs.BTreeSet.contains, specs.Ordering.on, specs.Ordering.then_cmp}

-- ---- the order

rank : Left → ℕ
rank (Minutes a) = 0
rank Unlimited = 1
rank Unbaked = 2

minutes_in : Left → ℕ
minutes_in (Minutes a) = a
minutes_in _ = 0

left-ranked : (a b : Left) → then_cmp (on rank nat_cmp) (on minutes_in nat_cmp) a b ≡ by_left a b
unfolding rank minutes_in
left-ranked (Minutes a) (Minutes b) = refl
left-ranked (Minutes a) Unlimited = refl
left-ranked (Minutes a) Unbaked = refl
left-ranked Unlimited (Minutes b) = refl
left-ranked Unlimited Unlimited = refl
left-ranked Unlimited Unbaked = refl
left-ranked Unbaked (Minutes b) = refl
left-ranked Unbaked Unlimited = refl
left-ranked Unbaked Unbaked = refl

by_turn-total : (H : History) → IsTotalOrder (by_turn H)
by_turn-total H = then_total (on_total (life_left H) by_left-total) nat_list_cmp_total
  where
    by_left-total : IsTotalOrder by_left
    by_left-total = subst IsTotalOrder (λ j a b. left-ranked a b j) (then_total (on_total rank nat_cmp_total) (on_total minutes_in nat_cmp_total))

by_turn-exact : (H : History) → CmpEqualImpliesEq (by_turn H)
by_turn-exact H a b is = exact_bytes a b (second (by_left (life_left H a) (life_left H b)) (by_name a b) is)
  where
    second : (x y : Ordering) → ordering_then x y ≡ Equal → y ≡ Equal
    second Less y is = cc
    second Equal y is = is
    second Greater y is = cc

abbrev pub free_in : History → Name → List Name → List Name
free_in H part reels = in_order (by_turn H) (filter (λ r. is_free H part r) reels)

free-same : (H : History) (part : Name) (xs ys : List Name) → ((r : Name) → is_free H part r ≡ true → has xs r ≡ has ys r) → free_in H part xs ≡ free_in H part ys
free-same H part xs ys agree =
    in_order-same (by_turn H) (by_turn-total H) (by_turn-exact H) (filter (λ r. is_free H part r) xs) (filter (λ r. is_free H part r) ys)
    (λ r. has-filter (is_free H part) xs r ∙ where-free (is_free H part r) (has xs r) (has ys r) (agree r) ∙ sym (has-filter (is_free H part) ys r))
  where
    where-free : (free a b : Bool) → (free ≡ true → a ≡ b) → (free && a) ≡ (free && b)
    where-free true a b is = is refl
    where-free false a b is = refl

pub turn-next : (H : History) (part : Name) (reels : List Name) (reel : Name) (turns : List (Left × Name)) → turns ≡ map (turn_of H) (free_in H part reels)
    → option_map_or (insert_key by_life turns) (option_map (turn_of H) (if_free H part reel)) turns ≡ map (turn_of H) (free_in H part (reels ++ reel ∷ []))
turn-next H part reels reel turns is = turn-put H part reels reel turns is ∙ ap (map (turn_of H)) (free-same H part (reel ∷ reels) (reels ++ reel ∷ []) (λ r free. joined r))
  where
    turned : (a b : Bool) → (a || b) ≡ (b || (a || false))
    turned true true = refl
    turned true false = refl
    turned false true = refl
    turned false false = refl

    joined : (r : Name) → has (reel ∷ reels) r ≡ has (reels ++ reel ∷ []) r
    joined r = turned (same r reel) (has reels r) ∙ sym (list_any-append (same r) reels (reel ∷ []))

-- ---- the reels at rest

received-has : (H : History) (r : Name) → is_some (receipt_of H r) ≡ has (reels_received H) r
received-has [] r = refl
received-has (e ∷ H) r = by e.stamped.command (received-has H r)
  where
    one : (b : Bool) (receipt : Receipt) → is_some (receipt_of H r) ≡ has (reels_received H) r
        → is_some (option_or (cond b (Some receipt) None) (receipt_of H r)) ≡ (b || has (reels_received H) r)
    one true receipt rest = refl
    one false receipt rest = rest

    by : (command : Command) → is_some (receipt_of H r) ≡ has (reels_received H) r
        → is_some (option_or (receipt_by r e.effective command) (receipt_of H r)) ≡ has (cons_option (received_by command) (reels_received H)) r
    by (ReelReceived x part lot moisture quantity) rest =
        one (same x r) (record { part = part; lot = lot; moisture = moisture; quantity = quantity; effective = e.effective }) rest
        ∙ ap (λ b. b || has (reels_received H) r) (same-sym x r)
    by _ rest = rest

free-rests : (H : History) (part reel : Name) → is_free H part reel ≡ true → rests H reel ≡ true
free-rests H part reel =
    by (is_allowed H part (part_of H reel)) (not (is_mounted H reel)) (nat_lt 0 (left_of H reel)) (not (is_unbaked H reel)) (not (is_expired H reel (now_of H)))
  where
    by : (a off some c d : Bool) → (a && off && some && c && d) ≡ true → (some && off) ≡ true
    by true true true c d is = refl
    by true true false c d is = cc
    by true false some c d is = cc
    by false off some c d is = cc

free-allowed : (H : History) (part reel : Name) → is_free H part reel ≡ true → is_allowed H part (part_of H reel) ≡ true
free-allowed H part reel =
    by (is_allowed H part (part_of H reel)) (not (is_mounted H reel)) (nat_lt 0 (left_of H reel)) (not (is_unbaked H reel)) (not (is_expired H reel (now_of H)))
  where
    by : (a b c d e : Bool) → (a && b && c && d && e) ≡ true → a ≡ true
    by true b c d e is = refl
    by false b c d e is = is

pub in-part : (resting : BTreeMap Name (BTreeSet Name)) (part r : Name) → is_name_at resting part r ≡ has (names_at resting part) r
in-part resting part r = by (tree.get by_name resting part)
  where
    by : (found : Option (BTreeSet Name)) → option_map_or (λ (reels : BTreeSet Name). contains by_name reels r) found false
        ≡ has (option_map_or (λ (reels : BTreeSet Name). reels.keys) found []) r
    by None = refl
    by (Some reels) = list_any-same (is_at (by_name r)) (same r) (is_at-by_name r) reels.keys

in-others : (resting : BTreeMap Name (BTreeSet Name)) (others : List Name) (q r : Name) → has others q ≡ true → has (names_at resting q) r ≡ true
    → has (flat_map (names_at resting) others) r ≡ true
in-others resting [] q r there rest = cc
in-others resting (x ∷ xs) q r there rest = list_any-append (same r) (names_at resting x) (flat_map (names_at resting) xs) ∙ by (same q x) refl there (λ later. in-others resting xs q r later rest)
  where
    by : (b : Bool) → same q x ≡ b → (b || has xs q) ≡ true → (has xs q ≡ true → has (flat_map (names_at resting) xs) r ≡ true) → (has (names_at resting x) r || has (flat_map (names_at resting) xs) r) ≡ true
    by true one there others = or_left _ _ (ap (λ n. has (names_at resting n) r) (sym (same-true q x one)) ∙ rest)
    by false away there others = or_right _ _ (others there)

-- The free reels among those of the part and its alternates that may be at rest are those of the history.
pub free-resting : (H : History) (part : Name) (others : List Name) (resting : BTreeMap Name (BTreeSet Name)) → IsJudged Two H
    → ((r : Name) → rests H r ≡ true → is_name_at resting (part_of H r) r ≡ true) → ((q : Name) → list_any (same q) others ≡ is_alternate H part q)
    → free_in H part (names_at resting part ++ flat_map (names_at resting) others) ≡ free_in H part (reels_received H)
free-resting H part others resting judged all named =
    free-same H part (names_at resting part ++ flat_map (names_at resting) others) (reels_received H) (λ r free.
    let rest = free-rests H part r free in
    there r (free-allowed H part r free) (sym (in-part resting (part_of H r) r) ∙ all r rest)
    ∙ sym (sym (received-has H r) ∙ rests-received H r judged rest))
  where
    there : (r : Name) → is_allowed H part (part_of H r) ≡ true → has (names_at resting (part_of H r)) r ≡ true
        → has (names_at resting part ++ flat_map (names_at resting) others) r ≡ true
    there r may rest = list_any-append (same r) (names_at resting part) (flat_map (names_at resting) others) ∙ by (same (part_of H r) part) refl may
      where
        by : (b : Bool) → same (part_of H r) part ≡ b → (b || is_alternate H part (part_of H r)) ≡ true
            → (has (names_at resting part) r || has (flat_map (names_at resting) others) r) ≡ true
        by true one may = or_left _ _ (ap (λ n. has (names_at resting n) r) (sym (same-true (part_of H r) part one)) ∙ rest)
        by false away may = or_right _ _ (in-others resting others (part_of H r) r (named (part_of H r) ∙ may) rest)
