-- Reading composed values.
use Rattle.desk_types.proofs.Common.{[], ◌++◌, ◌<◌, ◌^◌, ◌∙◌, ◌∷◌, ◌≡◌, AllByRecursion, ap, append_assoc}
use Rattle.desk_types.proofs.Common.{arith, decimal, Err, Field, IsErrAnd, IsListOf, IsNumber, length}
use Rattle.desk_types.proofs.Common.{length-append, List, list_fields, numbers_apart, Ok, recursion_from_All}
use Rattle.desk_types.proofs.Common.{Result, subst, sym, ℕ}
use Rattle.desk_types.specs.Apart.{front_apart, lengths_fit}
use Rattle.desk_types.specs.Fields.{AreCounted, IsPrefixFree, Reads}
use Rattle.desk_types.specs.declared.stored_fields.Unread.{Unread}
use Rattle.desk_types.specs.declared.stored_fields.Unread.TheVariants.{NoMemory, NotStored}
use Rattle.std.proofs.Common.{flat_map}

pub unread_as : {X Y : Type 0} (Is : X → Type 0) (spelling : X → List Field) (IsY : Y → Type 0) (spelling_y : Y → List Field) (of : Y → X)
    → ((y : Y) → IsY y → Is (of y)) → ((y : Y) → spelling_y y ≡ spelling (of y)) → (before after then : List Field) (fault : Unread) (r : Result Y Unread)
    → IsErrAnd r (λ e. e ≡ fault) → Reads Is spelling before after (Err fault) → Reads IsY spelling_y before then r
unread_as Is spelling IsY spelling_y of is spelled before after then fault (Ok y) err unread = absurd err
unread_as {X} {Y} Is spelling IsY spelling_y of is spelled before after then fault (Err e) err unread = subst (λ f. Reads IsY spelling_y before then (Err f)) (sym err) (by fault unread)
  where
    by : (fault : Unread) → Reads Is spelling before after (Err fault) → Reads {X = Y} IsY spelling_y before then (Err fault)
    by NoMemory unread = tt
    by NotStored unread = λ y more is_y e. unread (of y) more (is y is_y) (e ∙ ap (λ fields. fields ++ more) (spelled y))

pub value_unread : {X : Type 0} (Is : X → Type 0) (spelling : X → List Field) → IsPrefixFree Is spelling
    → (count : ℕ) (found : List X) (before here after then : List Field) (fault : Unread) (r : Result (List X) Unread)
    → AllByRecursion Is found → before ≡ flat_map spelling found ++ here → length found < count → IsErrAnd r (λ e. e ≡ fault)
    → Reads Is spelling here after (Err fault) → Reads (AreCounted Is count) (flat_map spelling) before then r
value_unread Is spelling apart count found before here after then fault (Ok xs) each so_far some err unread = absurd err
value_unread {X} Is spelling apart count found before here after then fault (Err e) each so_far some err unread = subst (λ f. Reads (AreCounted Is count) (flat_map spelling) before then (Err f)) (sym err) (by fault unread)
  where
    next : (xs : List X) (more : List Field) → ((x : X) (more : List Field) → Is x → ¬ (here ≡ spelling x ++ more)) → length xs ≡ count
        → (rest : List X) → xs ≡ found ++ rest → AllByRecursion Is rest → here ≡ flat_map spelling rest ++ more → ⊥
    next xs more none n [] longer is e = omega (arith, ap length longer, length-append found [])
    next xs more none n (x ∷ rest) longer is e = none x (flat_map spelling rest ++ more) is.0 (e ∙ append_assoc (spelling x) (flat_map spelling rest) more)

    by : (fault : Unread) → Reads Is spelling here after (Err fault) → Reads (AreCounted Is count) (flat_map spelling) before then (Err fault)
    by NoMemory unread = tt
    by NotStored unread = λ xs more is e.
        let front = front_apart Is spelling apart found xs here more each (recursion_from_All Is xs is.0) (omega (arith, is.1)) (sym so_far ∙ e) in
        next xs more unread is.1 front.0 front.1 front.2 front.3

pub length_read : {X : Type 0} (Is : X → Type 0) (spelling : X → List Field) (count : ℕ) (before here : List Field) → count < 2 ^ 64 → before ≡ decimal count ∷ here
    → (xs : List X) (more : List Field) → IsListOf Is xs → before ≡ list_fields spelling xs ++ more → (count ≡ length xs) × (here ≡ flat_map spelling xs ++ more)
length_read Is spelling count before here fits read xs more is e =
    numbers_apart IsNumber (λ n fits. fits) count (length xs) here (flat_map spelling xs ++ more) fits (lengths_fit (length xs) is.count) (sym read ∙ e)

pub list_unread : {X : Type 0} (Is : X → Type 0) (spelling : X → List Field) (count : ℕ) (before here after then : List Field) (fault : Unread) (r : Result (List X) Unread)
    → count < 2 ^ 64 → before ≡ decimal count ∷ here → IsErrAnd r (λ e. e ≡ fault) → Reads (AreCounted Is count) (flat_map spelling) here after (Err fault)
    → Reads (IsListOf Is) (list_fields spelling) before then r
list_unread Is spelling count before here after then fault (Ok xs) fits read err unread = absurd err
list_unread {X} Is spelling count before here after then fault (Err e) fits read err unread = subst (λ f. Reads (IsListOf Is) (list_fields spelling) before then (Err f)) (sym err) (by fault unread)
  where
    by : (fault : Unread) → Reads (AreCounted Is count) (flat_map spelling) here after (Err fault) → Reads (IsListOf Is) (list_fields spelling) before then (Err fault)
    by NoMemory unread = tt
    by NotStored unread = λ xs more is e. let one = length_read Is spelling count before here fits read xs more is e in unread xs more (is.each, sym one.0) one.1
