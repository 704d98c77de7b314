-- Names and pairs of names as the keys of ordered sets and maps.
use Rattle.desk_types.proofs.Tests.{or-cond}
use Rattle.desk_types.specs.{Id.by_name, Id.Name, Id.same, Pair.by_pair, Pair.same_pair}
use Rattle.std.proofs.{Common.◌∙◌, Common.◌≡◌, Common.ap, Common.Bool, Common.cond, Common.false, Common.List}
use Rattle.std.proofs.{Common.Option, Common.refl, Common.sym, Common.true, lemmas.Bool.and_parts}
use Rattle.std.specs.{BTreeMap.is_at, Cmp.partial_equiv_from_equiv, Cmp.Lexicographic.bytes_decides}
use Rattle.std.specs.{Cmp.Lexicographic.nat_list_eq_equiv, Cmp.Lexicographic.texts_ties, List.list_any}
use Rattle.std.specs.{Ordering.is_eq, Ordering.ordering_then, Prelude.◌&&◌, Prelude.◌||◌}
use Rattle.std.specs.{declared.cmp.Ordering.Ordering, declared.cmp.Ordering.TheVariants.Equal}
use Rattle.std.specs.{declared.cmp.Ordering.TheVariants.Greater, declared.cmp.Ordering.TheVariants.Less}

pub same-refl : (a : Name) → same a a ≡ true
same-refl a = nat_list_eq_equiv.refl a

pub same-sym : (a b : Name) → same a b ≡ same b a
same-sym a b = (partial_equiv_from_equiv nat_list_eq_equiv).symm a b

pub same-true : (a b : Name) → same a b ≡ true → a ≡ b
same-true a b = (bytes_decides a b).0

pub is_at-by_name : (k q : Name) → is_at (by_name k) q ≡ same k q
is_at-by_name k q = sym (texts_ties k q)

pub is_eq-ordering_then : (a b : Ordering) → is_eq (ordering_then a b) ≡ (is_eq a && is_eq b)
is_eq-ordering_then Less b = refl
is_eq-ordering_then Equal b = refl
is_eq-ordering_then Greater b = refl

pub is_at-by_pair : (k q : Name × Name) → is_at (by_pair k) q ≡ same_pair k q
is_at-by_pair k q =
    is_eq-ordering_then (by_name k.0 q.0) (by_name k.1 q.1)
    ∙ ap (λ t. t && is_eq (by_name k.1 q.1)) (is_at-by_name k.0 q.0)
    ∙ ap (λ t. same k.0 q.0 && t) (is_at-by_name k.1 q.1)

pub list_any-same : {X : Type 0} (s t : X → Bool) → ((x : X) → s x ≡ t x) → (xs : List X) → list_any s xs ≡ list_any t xs
list_any-same s t agree xs = ap (λ test. list_any test xs) (λ j x. agree x j)

-- The members of a set after inserting k; `at` is the lookup and `is` the test of a key.
pub has-after : {K : Type 0} (at is : K → K → Bool) → ((k q : K) → at k q ≡ is k q) → (old new : List K) (k : K)
    → ((q : K) → list_any (at q) new ≡ cond (at k q) true (list_any (at q) old)) → (q : K) → list_any (is q) new ≡ (is k q || list_any (is q) old)
has-after at is agree old new k after q =
    sym (list_any-same (at q) (is q) (agree q) new)
    ∙ after q
    ∙ or-cond (at k q) _
    ∙ ap (λ t. t || list_any (at q) old) (agree k q)
    ∙ ap (λ t. is k q || t) (list_any-same (at q) (is q) (agree q) old)

-- ---- maps

cond-of : {X Y : Type 0} (F : X → Y) (b : Bool) (x y : X) → F (cond b x y) ≡ cond b (F x) (F y)
cond-of F true x y = refl
cond-of F false x y = refl

-- A map by name after writing w at k; `old` and `new` are the lookups before and after.
pub name-written : {V X : Type 0} (old new : Name → Option V) (k : Name) (w : Option V) (read : Option V → X)
    → ((q : Name) → new q ≡ cond (is_at (by_name k) q) w (old q)) → (q : Name) → read (new q) ≡ cond (same k q) (read w) (read (old q))
name-written old new k w read after q = ap read (after q) ∙ cond-of read _ _ _ ∙ ap (λ b. cond b (read w) (read (old q))) (is_at-by_name k q)

pub pair-written : {V X : Type 0} (old new : Name × Name → Option V) (k : Name × Name) (w : Option V) (read : Option V → X)
    → ((q : Name × Name) → new q ≡ cond (is_at (by_pair k) q) w (old q)) → (a b : Name) → read (new (a, b)) ≡ cond (same_pair k (a, b)) (read w) (read (old (a, b)))
pair-written old new k w read after a b = ap read (after (a, b)) ∙ cond-of read _ _ _ ∙ ap (λ t. cond t (read w) (read (old (a, b)))) (is_at-by_pair k (a, b))

pub name-changed : {X : Type 0} (x y : X) (old : Name → X) (step : X → X) (k : Name) → old k ≡ x → step x ≡ y → (q : Name)
    → cond (same k q) y (old q) ≡ cond (same k q) (step (old q)) (old q)
name-changed x y old step k was is q = by (same k q) refl
  where
    by : (b : Bool) → same k q ≡ b → cond b y (old q) ≡ cond b (step (old q)) (old q)
    by true one = sym is ∙ ap step (sym was ∙ ap old (same-true k q one))
    by false one = refl

pub pair-changed : {X : Type 0} (x y : X) (old : Name → Name → X) (step : X → X) (k : Name × Name) → old k.0 k.1 ≡ x → step x ≡ y → (a b : Name)
    → cond (same_pair k (a, b)) y (old a b) ≡ cond (same_pair k (a, b)) (step (old a b)) (old a b)
pair-changed x y old step k was is a b = by (same_pair k (a, b)) refl
  where
    by : (t : Bool) → same_pair k (a, b) ≡ t → cond t y (old a b) ≡ cond t (step (old a b)) (old a b)
    by true one =
        let both = and_parts (same k.0 a) (same k.1 b) one in
        sym is ∙ ap step (sym was ∙ ap (λ m. old m k.1) (same-true k.0 a both.0) ∙ ap (old a) (same-true k.1 b both.1))
    by false one = refl
