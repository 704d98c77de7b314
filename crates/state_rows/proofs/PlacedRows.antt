-- The rows of `placement` are the placements, in the order of their numbers and places.
use Rattle.desk_types.proofs.Common.{[], ◌&&◌, ◌++◌, ◌+◌, ◌<◌, ◌==◌, ◌∙◌, ◌∷◌, ◌≡◌, ◌≤◌, AllByRecursion, ap}
use Rattle.desk_types.proofs.Common.{arith, Bool, cond, entry_takes, EntryTake, enumerate_from, eq-eqb}
use Rattle.desk_types.proofs.Common.{eqb-true, Equal, false, filter_map, filter_map-append, find, Greater}
use Rattle.desk_types.proofs.Common.{History, is_at, is_eq, IsJudged, IsStrictlySortedBy, keys_of, length}
use Rattle.desk_types.proofs.Common.{Less, List, lookup, lt-ltb, ltb-true, map, nat_cmp, nat_lt, ne_eqb}
use Rattle.desk_types.proofs.Common.{option_map, ordering_then, placement_of, placement_row, placements_of}
use Rattle.desk_types.proofs.Common.{refl, Some, subst, sym, takes_by, takes_of, true, ℕ}
use Rattle.desk_laws.proofs.Common.{Counted, Entry, Placed, Placement, Purpose, Rejected, Take, Two}
use Rattle.desk_laws.proofs.{Distinct.all-append, NameSets.all-weaker}
use Rattle.desk_types.proofs.Keys.{is_eq-ordering_then}
use Rattle.desk_types.specs.{Tables.placement_columns, declared.row.PlacementRow.PlacementRow}
use Rattle.state_rows.specs.Kept.{by_piece, Lists, row_at}

abbrev pub entry_of : Placement → (ℕ × ℕ) × PlacementRow
entry_of p = ((p.number, p.place), placement_columns p)

abbrev pub piece_entries : History → List ((ℕ × ℕ) × PlacementRow)
piece_entries H = map entry_of (placements_of H)

-- ---- look-ups

same-number : (a b : ℕ) → is_eq (nat_cmp a b) ≡ (b == a)
same-number a b = by (nat_lt a b) refl (a == b) refl
  where
    by : (less : Bool) → nat_lt a b ≡ less → (one : Bool) → (a == b) ≡ one → is_eq (cond less Less (cond one Equal Greater)) ≡ (b == a)
    by true is one at = let below = ltb-true a b is in sym (ne_eqb b a (λ e. omega (arith, e, below)))
    by false is true at = let e = eqb-true a b at in sym (eq-eqb b a (sym e))
    by false is false at = sym (ne_eqb b a (λ e. let back = eq-eqb a b (sym e) in cc))

pub pieces-found : (H : History) (key : ℕ × ℕ) → row_at by_piece (piece_entries H) key ≡ placement_row H key.0 key.1
pieces-found H key = among (placements_of H)
  where
    is_key : (p : Placement) → is_at (by_piece key) (p.number, p.place) ≡ (p.number == key.0 && p.place == key.1)
    is_key p = is_eq-ordering_then (nat_cmp key.0 p.number) (nat_cmp key.1 p.place) ∙ ap (λ b. b && is_eq (nat_cmp key.1 p.place)) (same-number key.0 p.number) ∙ ap (λ b. p.number == key.0 && b) (same-number key.1 p.place)

    among : (ps : List Placement) → lookup (is_at (by_piece key)) (map entry_of ps) ≡ option_map placement_columns (find (λ (p : Placement). p.number == key.0 && p.place == key.1) ps)
    among [] = refl
    among (p ∷ ps) =
        ap (λ b. cond b (Some (placement_columns p)) (lookup (is_at (by_piece key)) (map entry_of ps))) (is_key p)
        ∙ by (p.number == key.0 && p.place == key.1) (among ps)
      where
        by : (b : Bool) → lookup (is_at (by_piece key)) (map entry_of ps) ≡ option_map placement_columns (find (λ (q : Placement). q.number == key.0 && q.place == key.1) ps)
            → cond b (Some (placement_columns p)) (lookup (is_at (by_piece key)) (map entry_of ps))
            ≡ option_map placement_columns (cond b (Some p) (find (λ (q : Placement). q.number == key.0 && q.place == key.1) ps))
        by true rest = refl
        by false rest = rest

-- ---- order

less-number : (a b : ℕ × ℕ) → a.0 < b.0 → by_piece a b ≡ Less
less-number a b less = ap (λ c. ordering_then (cond c Less (cond (a.0 == b.0) Equal Greater)) (nat_cmp a.1 b.1)) (lt-ltb a.0 b.0 less)

less-place : (a b : ℕ × ℕ) → a.0 ≡ b.0 → a.1 < b.1 → by_piece a b ≡ Less
less-place a b one less =
    ap (λ c. ordering_then (cond c Less (cond (a.0 == b.0) Equal Greater)) (nat_cmp a.1 b.1)) (not-less (nat_lt a.0 b.0) refl)
    ∙ ap (λ c. ordering_then (cond c Equal Greater) (nat_cmp a.1 b.1)) (eq-eqb a.0 b.0 one)
    ∙ ap (λ c. cond c Less (cond (a.1 == b.1) Equal Greater)) (lt-ltb a.1 b.1 less)
  where
    not-less : (c : Bool) → nat_lt a.0 b.0 ≡ c → nat_lt a.0 b.0 ≡ false
    not-less true is = let below = ltb-true a.0 b.0 is in absurd (omega (arith, one, below))
    not-less false is = is

sorted-append : (xs ys : List (ℕ × ℕ)) → IsStrictlySortedBy by_piece xs → IsStrictlySortedBy by_piece ys → AllByRecursion (λ x. AllByRecursion (λ y. by_piece x y ≡ Less) ys) xs
    → IsStrictlySortedBy by_piece (xs ++ ys)
unfolding IsStrictlySortedBy
sorted-append [] ys first rest below = rest
sorted-append (x ∷ xs) ys (above, first) rest (here, below) = (all-append (λ y. by_piece x y ≡ Less) xs ys above here, sorted-append xs ys first rest below)

-- The keys of an entry's placements, the first of whose takes is in this place.
module _ (number effective : ℕ) where
  abbrev as_take : ℕ × Take → EntryTake
  as_take (place, take) = record { number = number; place = place; effective = effective; take = take }

  abbrev keys_from : ℕ → List Take → List (ℕ × ℕ)
  keys_from i takes = keys_of (map entry_of (filter_map placement_of (map as_take (enumerate_from i takes))))

  -- The key has the entry's number, and a place from this one on.
  abbrev IsFrom : ℕ → ℕ × ℕ → Type 0
  IsFrom i key = (key.0 ≡ number) × (i ≤ key.1)

  from-place : (takes : List Take) (i : ℕ) → AllByRecursion (IsFrom i) (keys_from i takes)
  from-place [] i = tt
  from-place (take ∷ takes) i = by take.purpose (all-weaker (IsFrom (i + 1)) (IsFrom i) (λ key is. (is.0, let above = is.1 in omega (arith, above))) (keys_from (i + 1) takes) (from-place takes (i + 1)))
    where
      by : (purpose : Purpose) → AllByRecursion (IsFrom i) (keys_from (i + 1) takes) → AllByRecursion (IsFrom i) (keys_from i (record take { purpose = purpose } ∷ takes))
      by (Placed board designator machine slot) rest = ((refl, omega arith), rest)
      by (Rejected machine slot) rest = rest
      by Counted rest = rest

  sorted-from : (takes : List Take) (i : ℕ) → IsStrictlySortedBy by_piece (keys_from i takes)
  unfolding IsStrictlySortedBy
  sorted-from [] i = tt
  sorted-from (take ∷ takes) i =
      by take.purpose (all-weaker (IsFrom (i + 1)) (λ key. by_piece (number, i) key ≡ Less) (λ key is. less-place (number, i) key (sym is.0) (let above = is.1 in omega (arith, above))) (keys_from (i + 1) takes) (from-place takes (i + 1)))
      (sorted-from takes (i + 1))
    where
      by : (purpose : Purpose) → AllByRecursion (λ key. by_piece (number, i) key ≡ Less) (keys_from (i + 1) takes) → IsStrictlySortedBy by_piece (keys_from (i + 1) takes)
          → IsStrictlySortedBy by_piece (keys_from i (record take { purpose = purpose } ∷ takes))
      by (Placed board designator machine slot) above rest = (above, rest)
      by (Rejected machine slot) above rest = rest
      by Counted above rest = rest

keys-append : (ps qs : List Placement) → keys_of (map entry_of (ps ++ qs)) ≡ keys_of (map entry_of ps) ++ keys_of (map entry_of qs)
keys-append [] qs = refl
keys-append (p ∷ ps) qs = ap (λ l. (p.number, p.place) ∷ l) (keys-append ps qs)

keys-next : (H : History) (e : Entry) → keys_of (piece_entries (e ∷ H)) ≡ keys_of (piece_entries H) ++ keys_from e.number e.effective 1 (takes_by H e.effective e.stamped.command)
unfolding takes_of
keys-next H e = ap (λ ps. keys_of (map entry_of ps)) (filter_map-append placement_of (takes_of H) (entry_takes H e)) ∙ keys-append (placements_of H) (filter_map placement_of (entry_takes H e))

keys-within : (H : History) → IsJudged Two H → AllByRecursion (λ key. key.0 ≤ length H) (keys_of (piece_entries H))
unfolding takes_of
keys-within [] judged = tt
keys-within (e ∷ H) (next, judged) =
    subst (AllByRecursion (λ key. key.0 ≤ length (e ∷ H))) (sym (keys-next H e)) (
    all-append (λ key. key.0 ≤ length (e ∷ H)) (keys_of (piece_entries H)) _
    (all-weaker (λ key. key.0 ≤ length H) (λ key. key.0 ≤ length (e ∷ H)) (λ key le. omega (arith, le)) _ (keys-within H judged))
    (all-weaker (IsFrom e.number e.effective 1) (λ key. key.0 ≤ length (e ∷ H)) (λ key is. let one = is.0 in let at = next.number in omega (arith, one, at)) _
    (from-place e.number e.effective (takes_by H e.effective e.stamped.command) 1)))

pub pieces-ascend : (H : History) → IsJudged Two H → IsStrictlySortedBy by_piece (keys_of (piece_entries H))
unfolding takes_of IsStrictlySortedBy
pieces-ascend [] judged = tt
pieces-ascend (e ∷ H) (next, judged) =
    subst (IsStrictlySortedBy by_piece) (sym (keys-next H e)) (
    sorted-append (keys_of (piece_entries H)) _ (pieces-ascend H judged) (sorted-from e.number e.effective (takes_by H e.effective e.stamped.command) 1) (
    all-weaker (λ key. key.0 ≤ length H) _ below (keys_of (piece_entries H)) (keys-within H judged)))
  where
    below : (key : ℕ × ℕ) → key.0 ≤ length H → AllByRecursion (λ later. by_piece key later ≡ Less) (keys_from e.number e.effective 1 (takes_by H e.effective e.stamped.command))
    below key le =
        all-weaker (IsFrom e.number e.effective 1) (λ later. by_piece key later ≡ Less) (λ later is. less-number key later (let one = is.0 in let at = next.number in omega (arith, one, at, le))) _
        (from-place e.number e.effective (takes_by H e.effective e.stamped.command) 1)

pub pieces-listed : (H : History) → IsJudged Two H → Lists by_piece (piece_entries H) (λ key. placement_row H key.0 key.1)
pieces-listed H judged = record { ascending = pieces-ascend H judged; rows = pieces-found H }
