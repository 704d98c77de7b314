-- Sets of names, and traces.
use Rattle.desk_types.proofs.Common.{[], ◌&&◌, ◌||◌, ◌↔◌, ◌∙◌, ◌∷◌, ◌≡◌, AllByRecursion, and_comm, ap}
use Rattle.desk_types.proofs.Common.{boards_of, Bool, by_name, CmpEqualImpliesEq, Contains, Contains-from_any}
use Rattle.desk_types.proofs.Common.{Equal, exact_bytes, false, filter, Greater, History, if◌then◌else◌}
use Rattle.desk_types.proofs.Common.{insert_key, IsStrictlySortedBy, IsTotalOrder, Less, List, list_any}
use Rattle.desk_types.proofs.Common.{list_any-from_Contains, list_any-same, lots_of, map, match_ordering}
use Rattle.desk_types.proofs.Common.{Name, nat_list_cmp_total, nat_list_eq_equiv, Ordering, ordering_reverse}
use Rattle.desk_types.proofs.Common.{placements_of, refl, same, same-sym, same-true, set_of, sym, true}
use Rattle.desk_laws.proofs.Common.{Placement}
use Rattle.desk_laws.proofs.Mounts.{has}
use Rattle.desk_types.proofs.Tests.{swap-or}
use Rattle.std.proofs.Math.Bool.{or_self_left}

pub all-weaker : {X : Type 0} (P Q : X → Type 0) → ((x : X) → P x → Q x) → (xs : List X) → AllByRecursion P xs → AllByRecursion Q xs
all-weaker P Q weaker [] all = tt
all-weaker P Q weaker (x ∷ xs) (first, all) = (weaker x first, all-weaker P Q weaker xs all)

-- ---- names put in order

module _ (R : Name → Name → Ordering) (o : IsTotalOrder R) (exact : CmpEqualImpliesEq R) where
  pub has-put : (names : List Name) (x r : Name) → has (insert_key R names x) r ≡ (same r x || has names r)
  has-put [] x r = refl
  has-put (y ∷ ys) x r = by (R x y) refl (has-put ys x r)
    where
      by : (order : Ordering) → R x y ≡ order → has (insert_key R ys x) r ≡ (same r x || has ys r)
          → has (match_ordering order (x ∷ y ∷ ys) (y ∷ ys) (y ∷ insert_key R ys x)) r ≡ (same r x || (same r y || has ys r))
      by Less is rest = refl
      by Equal is rest = sym (or_self_left (same r y) (has ys r)) ∙ ap (λ z. same r z || (same r y || has ys r)) (sym (exact x y is))
      by Greater is rest = ap (λ b. same r y || b) rest ∙ swap-or (same r y) (same r x) (has ys r)

  all-put : (P : Name → Type 0) (names : List Name) (x : Name) → AllByRecursion P names → P x → AllByRecursion P (insert_key R names x)
  all-put P [] x all one = (one, tt)
  all-put P (y ∷ ys) x (first, all) one = by (R x y) (all-put P ys x all one)
    where
      by : (order : Ordering) → AllByRecursion P (insert_key R ys x) → AllByRecursion P (match_ordering order (x ∷ y ∷ ys) (y ∷ ys) (y ∷ insert_key R ys x))
      by Less rest = (one, (first, all))
      by Equal rest = (first, all)
      by Greater rest = (first, rest)

  pub ordered-put : (names : List Name) (x : Name) → IsStrictlySortedBy R names → IsStrictlySortedBy R (insert_key R names x)
  unfolding IsStrictlySortedBy
  ordered-put [] x up = (tt, tt)
  ordered-put (y ∷ ys) x (first, up) = by (R x y) refl (ordered-put ys x up)
    where
      by : (order : Ordering) → R x y ≡ order → IsStrictlySortedBy R (insert_key R ys x)
          → IsStrictlySortedBy R (match_ordering order (x ∷ y ∷ ys) (y ∷ ys) (y ∷ insert_key R ys x))
      by Less is rest = ((is, all-weaker (λ z. R y z ≡ Less) (λ z. R x z ≡ Less) (λ z less. o.trans x y z is less) ys first), (first, up))
      by Equal is rest = (first, up)
      by Greater is rest = (all-put (λ z. R y z ≡ Less) ys x first (o.antisymm y x ∙ ap ordering_reverse is), rest)

pub has-set : (names : List Name) (other : Name) → has (set_of names) other ≡ has names other
has-set [] other = refl
has-set (x ∷ xs) other = has-put by_name nat_list_cmp_total exact_bytes (set_of xs) x other ∙ ap (λ b. same other x || b) (has-set xs other)

pub set-ordered : (names : List Name) → IsStrictlySortedBy by_name (set_of names)
unfolding IsStrictlySortedBy
set-ordered [] = tt
set-ordered (x ∷ xs) = ordered-put by_name nat_list_cmp_total exact_bytes (set_of xs) x (set-ordered xs)

-- ---- traces

-- A name is among those read of the elements that pass a test.
pub has-read : {X : Type 0} (read : X → Name) (test : X → Bool) (xs : List X) (name : Name)
    → has (map read (filter test xs)) name ≡ list_any (λ x. test x && same name (read x)) xs
has-read read test [] name = refl
has-read read test (x ∷ xs) name = by (test x) (has-read read test xs name)
  where
    by : (b : Bool) → has (map read (filter test xs)) name ≡ list_any (λ y. test y && same name (read y)) xs
        → has (map read (if b then x ∷ filter test xs else filter test xs)) name ≡ ((b && same name (read x)) || list_any (λ y. test y && same name (read y)) xs)
    by true rest = ap (λ b. same name (read x) || b) rest
    by false rest = rest

pub traces-agree : (H : History) (board lot : Name) → has (lots_of H board) lot ≡ has (boards_of H lot) board
traces-agree H board lot =
    has-set _ lot
    ∙ has-read (λ (p : Placement). p.lot) (λ p. same p.board board) (placements_of H) lot
    ∙ list_any-same (λ (p : Placement). same p.board board && same lot p.lot) (λ p. same p.lot lot && same board p.board)
    (λ p. and_comm (same p.board board) (same lot p.lot) ∙ ap (λ b. b && same p.board board) (same-sym lot p.lot) ∙ ap (λ b. same p.lot lot && b) (same-sym p.board board)) (placements_of H)
    ∙ sym (has-read (λ (p : Placement). p.board) (λ p. same p.lot lot) (placements_of H) board)
    ∙ sym (has-set _ board)

pub traces-converse : (H : History) (board lot : Name) → Contains (lots_of H board) lot ↔ Contains (boards_of H lot) board
traces-converse H board lot = (
  λ there. Contains-from_any same-true board (boards_of H lot) (sym (traces-agree H board lot) ∙ list_any-from_Contains nat_list_eq_equiv lot (lots_of H board) there),
  λ there. Contains-from_any same-true lot (lots_of H board) (traces-agree H board lot ∙ list_any-from_Contains nat_list_eq_equiv board (boards_of H lot) there),
)
