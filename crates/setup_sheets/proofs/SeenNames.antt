-- Collecting names in a set, one by one.
use Rattle.desk_types.proofs.Common.{[], ◌++◌, ◌||◌, ◌∙◌, ◌∷◌, ◌≡◌, ap, append-nil, append_assoc, Bool}
use Rattle.desk_types.proofs.Common.{by_name, cond, false, if◌then◌else◌, is_at, is_at-by_name, List}
use Rattle.desk_types.proofs.Common.{list_any, list_any-append, Name, name_twice, None, not, refl, same}
use Rattle.desk_types.proofs.Common.{same-sym, Some, sym, true}
use Rattle.setup_sheets.specs.Names.{HasSeen, is_among}
use Rattle.std.specs.BTreeSet.{BTreeSet, contains}

put-last : (a b : Bool) → cond a true b ≡ (b || (a || false))
put-last true true = refl
put-last true false = refl
put-last false true = refl
put-last false false = refl

pub HasSeen-push : (old new : BTreeSet Name) (x : Name) (names : List Name) → HasSeen old names
    → ((q : Name) → contains by_name new q ≡ cond (is_at (by_name x) q) true (contains by_name old q)) → HasSeen new (names ++ x ∷ [])
HasSeen-push old new x names has after q =
    after q
    ∙ ap (λ b. cond b true (contains by_name old q)) (is_at-by_name x q ∙ same-sym x q)
    ∙ ap (λ b. cond (same q x) true b) (has q)
    ∙ put-last (same q x) (list_any (same q) names)
    ∙ sym (list_any-append (same q) names (x ∷ []))

pub name_twice-new : (before : List Name) (x : Name) (xs : List Name) → list_any (same x) before ≡ false
    → name_twice before (x ∷ xs) ≡ name_twice (before ++ x ∷ []) xs
name_twice-new before x xs new = ap (λ b. if b then Some x else name_twice (before ++ x ∷ []) xs) new

pub name_twice-seen : (before : List Name) (x : Name) (xs : List Name) → list_any (same x) before ≡ true → name_twice before (x ∷ xs) ≡ Some x
name_twice-seen before x xs seen = ap (λ b. if b then Some x else name_twice (before ++ x ∷ []) xs) seen

pub name_twice-append_some : (before xs ys : List Name) (x : Name) → name_twice before xs ≡ Some x → name_twice before (xs ++ ys) ≡ Some x
name_twice-append_some before [] ys x is = cc
name_twice-append_some before (z ∷ xs) ys x is = by (list_any (same z) before) refl (name_twice-append_some (before ++ z ∷ []) xs ys x)
  where
    by : (b : Bool) → list_any (same z) before ≡ b → (name_twice (before ++ z ∷ []) xs ≡ Some x → name_twice (before ++ z ∷ []) (xs ++ ys) ≡ Some x)
        → name_twice before (z ∷ xs ++ ys) ≡ Some x
    by true seen next = name_twice-seen before z (xs ++ ys) seen ∙ sym (name_twice-seen before z xs seen) ∙ is
    by false new next = name_twice-new before z (xs ++ ys) new ∙ next (sym (name_twice-new before z xs new) ∙ is)

pub name_twice-append_none : (before xs ys : List Name) → name_twice before xs ≡ None → name_twice before (xs ++ ys) ≡ name_twice (before ++ xs) ys
name_twice-append_none before [] ys none = ap (λ l. name_twice l ys) (sym (append-nil before))
name_twice-append_none before (z ∷ xs) ys none = by (list_any (same z) before) refl (name_twice-append_none (before ++ z ∷ []) xs ys)
  where
    by : (b : Bool) → list_any (same z) before ≡ b → (name_twice (before ++ z ∷ []) xs ≡ None → name_twice (before ++ z ∷ []) (xs ++ ys) ≡ name_twice ((before ++ z ∷ []) ++ xs) ys)
        → name_twice before (z ∷ xs ++ ys) ≡ name_twice (before ++ z ∷ xs) ys
    by true seen next = let is : Some z ≡ None = sym (name_twice-seen before z xs seen) ∙ none in cc
    by false new next =
        name_twice-new before z (xs ++ ys) new ∙ next (sym (name_twice-new before z xs new) ∙ none)
        ∙ ap (λ l. name_twice l ys) (append_assoc before (z ∷ []) xs)

pub was-new : (seen : BTreeSet Name) (before : List Name) (x : Name) (added : Bool) → HasSeen seen before
    → added ≡ not (contains by_name seen x) → added ≡ true → is_among before x ≡ false
was-new seen before x added has told is = sym (has x) ∙ by (contains by_name seen x) (sym told ∙ is)
  where
    by : (b : Bool) → not b ≡ true → b ≡ false
    by true n = sym n
    by false n = refl

pub was-seen : (seen : BTreeSet Name) (before : List Name) (x : Name) (added : Bool) → HasSeen seen before
    → added ≡ not (contains by_name seen x) → added ≡ false → is_among before x ≡ true
was-seen seen before x added has told is = sym (has x) ∙ by (contains by_name seen x) (sym told ∙ is)
  where
    by : (b : Bool) → not b ≡ false → b ≡ true
    by true n = refl
    by false n = sym n
