-- Reels that go off tapes.
use Rattle.desk_types.proofs.Common.{[], ◌&&◌, ◌+◌, ◌<◌, ◌==◌, ◌||◌, ◌∙◌, ◌∷◌, ◌≡◌, AllByRecursion, ap, Bool}
use Rattle.desk_types.proofs.Common.{cond, false, get_or, IsDistinct, length, List, list_any, list_any-append}
use Rattle.desk_types.proofs.Common.{Name, not, refl, same, same-refl, same-true, sym, take, take-next, true}
use Rattle.desk_types.proofs.Common.{ℕ}
use Rattle.desk_laws.proofs.Common.{Counted, Take}
use Rattle.desk_laws.specs.Slots.{comes_off}
use Rattle.feeder_state.specs.Spending.{is_spent_by}
use Rattle.std.{proofs.lemmas.Map.Keys.IsDistinct-head, specs.List.filter}

-- ---- filters

pub filter-kept : (p : Name → Bool) → ((r : Name) → p r ≡ true) → (reels : List Name) → filter p reels ≡ reels
filter-kept p passes [] = refl
filter-kept p passes (x ∷ xs) = ap (λ b. cond b (x ∷ filter p xs) (filter p xs)) (passes x) ∙ ap (λ l. x ∷ l) (filter-kept p passes xs)

pub filter-alike : (p q : Name → Bool) (reels : List Name) → ((r : Name) → p r ≡ q r) → filter p reels ≡ filter q reels
filter-alike p q reels agree = ap (λ (test : Name → Bool). filter test reels) (λ j r. agree r j)

pub filter-both : (p q : Name → Bool) (reels : List Name) → filter p (filter q reels) ≡ filter (λ r. q r && p r) reels
filter-both p q [] = refl
filter-both p q (x ∷ xs) = by (q x) (p x) refl (filter-both p q xs)
  where
    by : (b c : Bool) → p x ≡ c → filter p (filter q xs) ≡ filter (λ r. q r && p r) xs
        → filter p (cond b (x ∷ filter q xs) (filter q xs)) ≡ cond (b && p x) (x ∷ filter (λ r. q r && p r) xs) (filter (λ r. q r && p r) xs)
    by true c is rest = ap (λ l. cond (p x) (x ∷ l) l) rest
    by false c is rest = rest

kept-others : (x : Name) (reels : List Name) → AllByRecursion (λ y. same x y ≡ false) reels → filter (λ r. not (same x r)) reels ≡ reels
kept-others x [] apart = refl
kept-others x (y ∷ ys) apart =
    ap (λ b. cond (not b) (y ∷ filter (λ r. not (same x r)) ys) (filter (λ r. not (same x r)) ys)) apart.0 ∙ ap (λ l. y ∷ l) (kept-others x ys apart.1)

pub drop-head : (x : Name) (reels : List Name) → IsDistinct same (x ∷ reels) → reels ≡ filter (λ r. not (same x r)) (x ∷ reels)
drop-head x reels distinct =
    sym (ap (λ b. cond (not b) (x ∷ filter (λ r. not (same x r)) reels) (filter (λ r. not (same x r)) reels)) (same-refl x) ∙ kept-others x reels (IsDistinct-head same x reels distinct))

-- ---- takes

pub drop-there : (here : Bool) (reel : Name) (old : List Name) → cond here (filter (λ r. not (same reel r)) old) old ≡ filter (λ r. not (here && same reel r)) old
drop-there true reel old = refl
drop-there false reel old = sym (filter-kept (λ r. true) (λ r. refl) old)

pub drop-absent : (machine slot reel : Name) (old : Name → Name → List Name) → old machine slot ≡ [] → (m s : Name)
    → old m s ≡ filter (λ r. not ((same machine m && same slot s) && same reel r)) (old m s)
drop-absent machine slot reel old none m s = by (same machine m) (same slot s) refl refl
  where
    by : (a b : Bool) → same machine m ≡ a → same slot s ≡ b → old m s ≡ filter (λ r. not ((a && b) && same reel r)) (old m s)
    by true true one two = let empty : old m s ≡ [] = ap (λ n. old n s) (sym (same-true machine m one)) ∙ ap (old machine) (sym (same-true slot s two)) ∙ none in rw empty refl
    by true false one two = sym (filter-kept (λ r. true) (λ r. refl) (old m s))
    by false b one two = sym (filter-kept (λ r. true) (λ r. refl) (old m s))

pub unspent-stay : (left : Name → ℕ) (machine slot : Name) (t : Take) → (left t.reel == 0) ≡ false → (r : Name) → not (is_spent_by left machine slot r t) ≡ true
unspent-stay left machine slot t some r = by (comes_off t.purpose machine slot) (same t.reel r) refl
  where
    by : (a b : Bool) → same t.reel r ≡ b → not ((a && b) && (left r == 0)) ≡ true
    by true true one = let also : (left r == 0) ≡ false = ap (λ n. left n == 0) (sym (same-true t.reel r one)) ∙ some in rw also refl
    by true false one = refl
    by false b one = refl

pub counted-stay : (left : Name → ℕ) (machine slot : Name) (t : Take) → t.purpose ≡ Counted → (r : Name) → not (is_spent_by left machine slot r t) ≡ true
counted-stay left machine slot t is r = ap (λ p. not ((comes_off p machine slot && same t.reel r) && (left r == 0))) is

pub dropped-next : (left : Name → ℕ) (machine slot : Name) (takes : List Take) (i : ℕ) (t : Take) (first now next : List Name) → i < length takes → t ≡ get_or takes i t
    → now ≡ filter (λ r. not (list_any (is_spent_by left machine slot r) (take i takes))) first → next ≡ filter (λ r. not (is_spent_by left machine slot r t)) now
    → next ≡ filter (λ r. not (list_any (is_spent_by left machine slot r) (take (i + 1) takes))) first
dropped-next left machine slot takes i t first now next inside is so_far one =
    one
    ∙ ap (filter (λ r. not (is_spent_by left machine slot r t))) so_far
    ∙ filter-both (λ r. not (is_spent_by left machine slot r t)) (λ r. not (list_any (is_spent_by left machine slot r) (take i takes))) first
    ∙ filter-alike _ _ first (λ r.
    neither (list_any (is_spent_by left machine slot r) (take i takes)) (is_spent_by left machine slot r t)
    ∙ ap not (sym (ap (list_any (is_spent_by left machine slot r)) (take-next takes i t inside is) ∙ list_any-append (is_spent_by left machine slot r) (take i takes) (t ∷ []))))
  where
    neither : (a b : Bool) → (not a && not b) ≡ not (a || (b || false))
    neither true b = refl
    neither false true = refl
    neither false false = refl
