-- Joins of two and of three tables, when each row of one table matches one row of each other.
use Rattle.desk_types.proofs.Common.{[], ◌&&◌, ◌++◌, ◌∙◌, ◌∷◌, ◌≡◌, AllByRecursion, ap, append-nil}
use Rattle.desk_types.proofs.Common.{append_assoc, ap₂, Bool, false, filter, flat_map, if◌then◌else◌}
use Rattle.desk_types.proofs.Common.{IsPermutation, IsPermutation-refl, IsPermutation-trans, List, map, refl}
use Rattle.desk_types.proofs.Common.{subst₂, sym, true}
use Rattle.line_tables.proofs.Common.{flat_map-map}
use Rattle.sqlite_trees.proofs.ListLemmas.{flat_map-filter, flat_map_none, flat_map_same_on}
use Rattle.sqlite_trees.proofs.ListLemmas.{IsPermutation-same, map-flat_map}
use Rattle.std.proofs.lemmas.List.Sorted.{IsPermutation-append_comm, IsPermutation-append_left}
use Rattle.std.proofs.lemmas.List.Sorted.{IsPermutation-append_right}

-- ---- pairs of lists

both-found : {B X : Type 0} (g h : B → List X) (ys : List B) → IsPermutation (flat_map g ys ++ flat_map h ys) (flat_map (λ y. g y ++ h y) ys)
both-found g h [] = IsPermutation-refl []
both-found {B} {X} g h (y ∷ ys) = IsPermutation-trans _ _ _ (crossed (g y) (flat_map g ys) (h y) (flat_map h ys)) (IsPermutation-append_right (g y ++ h y) _ _ (both-found g h ys))
  where
    crossed : (a b c d : List X) → IsPermutation ((a ++ b) ++ (c ++ d)) ((a ++ c) ++ (b ++ d))
    crossed a b c d =
        subst₂ IsPermutation (sym (append_assoc a b (c ++ d))) (sym (append_assoc a c (b ++ d))) (
        IsPermutation-append_right a _ _ (
        subst₂ IsPermutation (append_assoc b c d) (append_assoc c b d) (IsPermutation-append_left d _ _ (IsPermutation-append_comm b c))))

pub swapped : {A B X : Type 0} (f : A → B → List X) (xs : List A) (ys : List B) → IsPermutation (flat_map (λ x. flat_map (f x) ys) xs) (flat_map (λ y. flat_map (λ x. f x y) xs) ys)
swapped f [] ys = IsPermutation-same _ _ (sym (flat_map_none (λ y. []) (λ y. refl) ys))
swapped f (x ∷ xs) ys =
    IsPermutation-trans _ _ _ (IsPermutation-append_right (flat_map (f x) ys) _ _ (swapped f xs ys)) (both-found (f x) (λ y. flat_map (λ z. f z y) xs) ys)

pub the-one : {A X : Type 0} (f : A → List X) (h : A → Bool) (xs : List A) (y : A) → filter h xs ≡ y ∷ [] → ((x : A) → h x ≡ false → f x ≡ []) → flat_map f xs ≡ f y
the-one f h xs y is none = sym (flat_map-filter f h none xs) ∙ ap (flat_map f) is ∙ append-nil (f y)

pub passes : {A : Type 0} (h : A → Bool) (xs : List A) (y : A) (ys : List A) → filter h xs ≡ y ∷ ys → h y ≡ true
passes h [] y ys is = cc
passes h (x ∷ xs) y ys is = by (h x) refl is (passes h xs y ys)
  where
    by : (b : Bool) → h x ≡ b → (if b then x ∷ filter h xs else filter h xs) ≡ y ∷ ys → (filter h xs ≡ y ∷ ys → h y ≡ true) → h y ≡ true
    by true one is rest = let same : x ≡ y = cc in sym (ap h same) ∙ one
    by false one is rest = rest is

pub found-of : {P X : Type 0} (f : P → List X) (test : P → Bool) (o : P → X) (ps : List P) → AllByRecursion (λ p. f p ≡ (if test p then o p ∷ [] else [])) ps → flat_map f ps ≡ map o (filter test ps)
found-of f test o [] each = refl
found-of {P} {X} f test o (p ∷ ps) (first, each) = ap₂ (λ (a b : List X). a ++ b) first (found-of f test o ps each) ∙ by (test p)
  where
    by : (b : Bool) → ((if b then o p ∷ [] else []) ++ map o (filter test ps)) ≡ map o (if b then p ∷ filter test ps else filter test ps)
    by true = refl
    by false = refl

-- ---- two lists

module _ {A B X : Type 0} (h : B → A → Bool) (t : A → B → Bool) (o : A → B → X) where
  abbrev pub paired : A → B → List X
  paired a b = if h b a && t a b then o a b ∷ [] else []

  abbrev pub pairing : List A → List B → List X
  pairing xs ys = flat_map (λ a. flat_map (paired a) ys) xs

  pub pair-one : (xs : List A) (b : B) (a : A) → filter (h b) xs ≡ a ∷ [] → flat_map (λ x. paired x b) xs ≡ (if t a b then o a b ∷ [] else [])
  pair-one xs b a one-a = the-one (λ x. paired x b) (h b) xs a one-a (λ x away. rw away refl) ∙ rw (passes (h b) xs a [] one-a) refl

  pub map-pair : {P Q E : Type 0} (f : E → X) (test : P → Q → Bool) (env : P → Q → E) (left : P → A) (right : Q → B)
      → ((p : P) (q : Q) → test p q ≡ (h (right q) (left p) && t (left p) (right q))) → ((p : P) (q : Q) → f (env p q) ≡ o (left p) (right q))
      → (ps : List P) (qs : List Q) → map f (flat_map (λ p. flat_map (λ q. if test p q then env p q ∷ [] else []) qs) ps) ≡ pairing (map left ps) (map right qs)
  map-pair {P} {Q} {E} f test env left right tests shows ps qs =
      map-flat_map f (λ p. flat_map (hit p) qs) ps ∙ flat_map_same_on _ _ second ps ∙ sym (flat_map-map (λ a. flat_map (paired a) (map right qs)) left ps)
    where
      hit : P → Q → List E
      hit p q = if test p q then env p q ∷ [] else []

      one : (b c : Bool) (p : P) (q : Q) → b ≡ c → map f (if b then env p q ∷ [] else []) ≡ (if c then o (left p) (right q) ∷ [] else [])
      one true true p q is = ap (λ x. x ∷ []) (shows p q)
      one false false p q is = refl
      one true false p q is = cc
      one false true p q is = cc

      second : (p : P) → map f (flat_map (hit p) qs) ≡ flat_map (paired (left p)) (map right qs)
      second p =
          map-flat_map f (hit p) qs
          ∙ flat_map_same_on _ _ (λ q. one (test p q) (h (right q) (left p) && t (left p) (right q)) p q (tests p q)) qs
          ∙ sym (flat_map-map (paired (left p)) right qs)

-- ---- three lists

module _ {A B C X : Type 0} (h : B → A → Bool) (k : B → C → Bool) (t : A → B → Bool) (o : A → B → C → X) where
  abbrev pub joined : A → B → C → List X
  joined a b c = if h b a && (k b c && t a b) then o a b c ∷ [] else []

  abbrev pub join : List A → List B → List C → List X
  join xs ys zs = flat_map (λ a. flat_map (λ b. flat_map (joined a b) zs) ys) xs

  pub join-one : (xs : List A) (b : B) (zs : List C) (a : A) (c : C) → filter (h b) xs ≡ a ∷ [] → filter (k b) zs ≡ c ∷ [] → flat_map (λ x. flat_map (joined x b) zs) xs ≡ (if t a b then o a b c ∷ [] else [])
  join-one xs b zs a c one-a one-c =
      the-one (λ x. flat_map (joined x b) zs) (h b) xs a one-a (λ x away. flat_map_none (joined x b) (λ y. rw away refl) zs)
      ∙ the-one (joined a b) (k b) zs c one-c (λ y away. first (h b a) away)
      ∙ rw (passes (h b) xs a [] one-a, passes (k b) zs c [] one-c) refl
    where
      first : (p : Bool) {y : C} → k b y ≡ false → (if p && (k b y && t a b) then o a b y ∷ [] else []) ≡ []
      first true away = rw away refl
      first false away = refl

  pub join-by : (xs : List A) (ys : List B) (zs : List C) → IsPermutation (join xs ys zs) (flat_map (λ b. flat_map (λ a. flat_map (joined a b) zs) xs) ys)
  join-by xs ys zs = swapped (λ a b. flat_map (joined a b) zs) xs ys

  pub map-join : {P Q R E : Type 0} (f : E → X) (test : P → Q → R → Bool) (env : P → Q → R → E) (left : P → A) (mid : Q → B) (right : R → C)
      → ((p : P) (q : Q) (r : R) → test p q r ≡ (h (mid q) (left p) && (k (mid q) (right r) && t (left p) (mid q)))) → ((p : P) (q : Q) (r : R) → f (env p q r) ≡ o (left p) (mid q) (right r))
      → (ps : List P) (qs : List Q) (rs : List R)
      → map f (flat_map (λ p. flat_map (λ q. flat_map (λ r. if test p q r then env p q r ∷ [] else []) rs) qs) ps) ≡ join (map left ps) (map mid qs) (map right rs)
  map-join {P} {Q} {R} {E} f test env left mid right tests shows ps qs rs =
      map-flat_map f (λ p. flat_map (λ q. flat_map (hit p q) rs) qs) ps
      ∙ flat_map_same_on _ _ second ps
      ∙ sym (flat_map-map (λ a. flat_map (λ b. flat_map (joined a b) (map right rs)) (map mid qs)) left ps)
    where
      hit : P → Q → R → List E
      hit p q r = if test p q r then env p q r ∷ [] else []

      one : (b c : Bool) (p : P) (q : Q) (r : R) → b ≡ c → map f (if b then env p q r ∷ [] else []) ≡ (if c then o (left p) (mid q) (right r) ∷ [] else [])
      one true true p q r is = ap (λ x. x ∷ []) (shows p q r)
      one false false p q r is = refl
      one true false p q r is = cc
      one false true p q r is = cc

      third : (p : P) (q : Q) → map f (flat_map (hit p q) rs) ≡ flat_map (joined (left p) (mid q)) (map right rs)
      third p q =
          map-flat_map f (hit p q) rs
          ∙ flat_map_same_on _ _ (λ r. one (test p q r) (h (mid q) (left p) && (k (mid q) (right r) && t (left p) (mid q))) p q r (tests p q r)) rs
          ∙ sym (flat_map-map (joined (left p) (mid q)) right rs)

      second : (p : P) → map f (flat_map (λ q. flat_map (hit p q) rs) qs) ≡ flat_map (λ b. flat_map (joined (left p) b) (map right rs)) (map mid qs)
      second p =
          map-flat_map f (λ q. flat_map (hit p q) rs) qs
          ∙ flat_map_same_on _ _ (third p) qs
          ∙ sym (flat_map-map (λ b. flat_map (joined (left p) b) (map right rs)) mid qs)
