-- Lists that are made from the pieces in turn.
use Rattle.desk_types.proofs.Common.{[], ◌+◌, ◌++◌, ◌<◌, ◌∙◌, ◌∷◌, ◌≡◌, ◌||◌, ◌⊎◌, All, All-head, All-tail, ap, ap₂, arith, Bool, false}
use Rattle.desk_types.proofs.Common.{Err, get_or, IfOk, Ok, Result, inl, inr, is_some, length, length-map, list_any, List, map, map-append, None, Option}
use Rattle.desk_types.proofs.Common.{option_or, refl, reverse, reverse-append, Some, suc, sym, take, true, zero, ℕ}
use Rattle.desk_types.specs.declared.placement.Placement.{Placement}

-- One more element of a list that is mapped in turn.
pub mapped-next : {X Y : Type 0} (f : X → Y) (xs : List X) (i : ℕ) (x : X) (old new : List Y) (y : Y)
    → take (i + 1) xs ≡ take i xs ++ x ∷ [] → old ≡ map f (take i xs) → y ≡ f x → new ≡ old ++ y ∷ []
    → new ≡ map f (take (i + 1) xs)
mapped-next f xs i x old new y longer was is grows =
    grows ∙ ap₂ (λ l z. l ++ z ∷ []) was is ∙ sym (ap (map f) longer ∙ map-append f (take i xs) (x ∷ []))

-- One more element of two lists that are joined.
pub joined-next : {A B C : Type 0} (op : A → B → C) (f : Placement → A) (g : Placement → B) (ps : List Placement)
    (i : ℕ) (d : A) (d' : B) → i < length ps
    → map (λ p. op (f p) (g p)) (take (suc i) ps)
    ≡ map (λ p. op (f p) (g p)) (take i ps) ++ op (get_or (map f ps) i d) (get_or (map g ps) i d') ∷ []
joined-next op f g [] i d d' lt = absurd (omega (arith, lt))
joined-next op f g (p ∷ ps) zero d d' lt = refl
joined-next op f g (p ∷ ps) (suc i) d d' lt =
    ap (λ l. op (f p) (g p) ∷ l) (joined-next op f g ps i d d' (omega (arith, lt)))

pub mapped-long : {A : Type 0} (f : Placement → A) (placed : List Placement) (xs : List A) → xs ≡ map f placed
    → length xs ≡ length placed
mapped-long f placed xs are = ap length are ∙ length-map placed f

pub back-again : {X Y : Type 0} (f : X → Y) (xs : List X) → reverse (map f (reverse xs)) ≡ map f xs
back-again f [] = refl
back-again f (x ∷ xs) =
    ap (λ l. reverse (map f l)) (reverse-append (x ∷ []) xs)
    ∙ ap reverse (map-append f (reverse xs) (x ∷ []))
    ∙ reverse-append (map f (reverse xs)) (f x ∷ [])
    ∙ ap (λ l. f x ∷ l) (back-again f xs)

pub mapped-twice : {X Y Z : Type 0} (f : Y → Z) (g : X → Y) (xs : List X) (ys : List Y) → ys ≡ map g xs
    → map f ys ≡ map (λ x. f (g x)) xs
mapped-twice {X} f g xs ys are = ap (map f) are ∙ both xs
  where
    both : (xs : List X) → map f (map g xs) ≡ map (λ x. f (g x)) xs
    both [] = refl
    both (x ∷ xs) = ap (λ l. f (g x) ∷ l) (both xs)

pub map-same-where : {X Y : Type 0} (P : X → Type 0) (f g : X → Y) → ((x : X) → P x → f x ≡ g x) → (xs : List X)
    → All P xs → map f xs ≡ map g xs
map-same-where P f g each [] all = refl
map-same-where P f g each (x ∷ xs) all =
    ap₂ (λ y l. y ∷ l) (each x (All-head P x xs all)) (map-same-where P f g each xs (All-tail P x xs all))

pub any-same-where : {X : Type 0} (P : X → Type 0) (a b : X → Bool) → ((x : X) → P x → a x ≡ b x) → (xs : List X)
    → All P xs → list_any a xs ≡ list_any b xs
any-same-where P a b each [] all = refl
any-same-where P a b each (x ∷ xs) all =
    ap₂ (λ s t. s || t) (each x (All-head P x xs all)) (any-same-where P a b each xs (All-tail P x xs all))

pub any-or : {X : Type 0} (a b : X → Bool) (xs : List X)
    → list_any (λ x. a x || b x) xs ≡ (list_any a xs || list_any b xs)
any-or a b [] = refl
any-or a b (x ∷ xs) = ap (λ t. (a x || b x) || t) (any-or a b xs) ∙ mixed (a x) (b x) (list_any a xs) (list_any b xs)
  where
    mixed : (a b c d : Bool) → ((a || b) || (c || d)) ≡ ((a || c) || (b || d))
    mixed true b c d = refl
    mixed false true true d = refl
    mixed false true false d = refl
    mixed false false c d = refl

pub or-first : (a b c : Bool) → ((a || b) || c) ≡ (b || (a || c))
or-first true true c = refl
or-first true false c = refl
or-first false b c = refl

-- ---- the first of two numbers

pub or-some : (a b : Option ℕ) → is_some (option_or a b) ≡ (is_some a || is_some b)
or-some None b = refl
or-some (Some n) b = refl

pub or-one : (a b : Option ℕ) (n : ℕ) → option_or a b ≡ Some n → (a ≡ Some n) ⊎ (b ≡ Some n)
or-one None b n is = inr is
or-one (Some m) b n is = inl is

-- ---- a fact that holds anyway

pub always : {T E : Type 0} {P : Type 0} (r : Result T E) → P → IfOk r (λ _. P)
always (Ok t) is = is
always (Err e) is = tt
