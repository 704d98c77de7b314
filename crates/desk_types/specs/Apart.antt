-- No value's spelling is a prefix of another's.
use Rattle.std.proofs.Common.{◌≡◌, ℕ, ◌<◌, ◌≤◌, ◌^◌, Some, List, [], ◌∷◌, ◌++◌, length, flat_map, decimal, refl, sym, ap, ◌∙◌, append_assoc, arith}
use Rattle.std.proofs.lemmas.Fmt.{decimal_injective}
use Rattle.desk_types.specs.declared.level.Level.{Level}
use Rattle.desk_types.specs.declared.level.Level.TheVariants.{One, Two, TwoA, Three, Four, Five, FiveA, Six}
use Rattle.desk_types.specs.Fields.{IsPrefixFree, PairInRange, pair_fields, TripleInRange, triple_fields, number_fields, level_fields}
use Rattle.desk_types.specs.Level.{text_of, level_of}
use Rattle.desk_types.specs.StoredText.{Field, name_fields, list_fields, row_fields, count_fields}
use Rattle.desk_types.specs.Command.{IsListOf, IsSheetRow, IsCountRow}
use Rattle.desk_types.specs.Bounds.{IsListLength}
use Rattle.desk_types.specs.Designator.{IsDesignator}
use Rattle.desk_types.specs.Id.{IsId}
use Rattle.desk_types.specs.Number.{IsQuantity, IsCountedQuantity}
use Rattle.std.specs.List.{AllByRecursion}
use Rattle.std.proofs.lemmas.List.Elements.{recursion_from_All}
use Rattle.std.proofs.lemmas.List.{append-nil, length-append}

pub names_apart : (InRange : Field → Type 0) → IsPrefixFree InRange name_fields
names_apart InRange a b left right _ _ e = (cc, cc)

pub numbers_apart : (InRange : ℕ → Type 0) → ((n : ℕ) → InRange n → n < 2 ^ 64)
    → IsPrefixFree InRange number_fields
numbers_apart InRange fits a b left right is_a is_b e =
    let texts : decimal a ≡ decimal b = cc in
    (decimal_injective a b (fits a is_a) (fits b is_b) texts, cc)

pub quantities_fit : (n : ℕ) → IsQuantity n → n < 2 ^ 64
quantities_fit n is = omega arith

pub counted_quantities_fit : (n : ℕ) → IsCountedQuantity n → n < 2 ^ 64
counted_quantities_fit n is = omega arith

pub lengths_fit : (n : ℕ) → IsListLength n → n < 2 ^ 64
lengths_fit n is = omega arith

pub level_of-text_of : (level : Level) → level_of (text_of level) ≡ Some level
level_of-text_of One = refl
level_of-text_of Two = refl
level_of-text_of TwoA = refl
level_of-text_of Three = refl
level_of-text_of Four = refl
level_of-text_of Five = refl
level_of-text_of FiveA = refl
level_of-text_of Six = refl

pub levels_apart : (InRange : Level → Type 0) → IsPrefixFree InRange level_fields
levels_apart InRange a b left right _ _ e =
    let texts : text_of a ≡ text_of b = cc in
    let levels : Some a ≡ Some b =
    sym (level_of-text_of a) ∙ ap level_of texts ∙ level_of-text_of b in
    (cc, cc)

pub pairs_apart : {A B : Type 0} (First : A → Type 0) (Second : B → Type 0) (first : A → List Field)
    (second : B → List Field)
    → IsPrefixFree First first → IsPrefixFree Second second
    → IsPrefixFree (PairInRange First Second) (pair_fields first second)
pairs_apart First Second first second first_apart second_apart a b left right is_a is_b e =
    let one = first_apart a.0 b.0 (second a.1 ++ left) (second b.1 ++ right) is_a.0 is_b.0
    (sym (append_assoc (first a.0) (second a.1) left) ∙ e ∙ append_assoc
    (first b.0) (second b.1) right) in
    let two = second_apart a.1 b.1 left right is_a.1 is_b.1 one.1 in
    (ap (λ x. (x, a.1)) one.0 ∙ ap (λ x. (b.0, x)) two.0, two.1)

pub triples_apart : {A B C : Type 0} (First : A → Type 0) (Second : B → Type 0) (Third : C → Type 0)
    (first : A → List Field) (second : B → List Field) (third : C → List Field)
    → IsPrefixFree First first → IsPrefixFree Second second → IsPrefixFree Third third
    → IsPrefixFree (TripleInRange First Second Third) (triple_fields first second third)
triples_apart First Second Third first second third first_apart second_apart third_apart a
    b left right is_a is_b e =
    let pair = pairs_apart First (PairInRange Second Third) first (pair_fields second third)
    first_apart (pairs_apart Second Third second third second_apart third_apart)
    (a.0, (a.1, a.2)) (b.0, (b.1, b.2)) left right (is_a.0, (is_a.1, is_a.2))
    (is_b.0, (is_b.1, is_b.2)) e in
    (ap (λ p. (p.0, p.1.0, p.1.1)) pair.0, pair.1)

-- If two sequences of values have a common prefix, the shorter sequence is a prefix of the longer.
pub front_apart : {X : Type 0} (InRange : X → Type 0) (spelling : X → List Field)
    → IsPrefixFree InRange spelling
    → (xs ys : List X) (left right : List Field) → AllByRecursion InRange xs
    → AllByRecursion InRange ys → length xs ≤ length ys
    → flat_map spelling xs ++ left ≡ flat_map spelling ys ++ right → (rest : List X)
    × (ys ≡ xs ++ rest) × AllByRecursion InRange rest × (left ≡ flat_map spelling rest ++ right)
front_apart InRange spelling apart [] ys left right is_x is_y n e = (ys, refl, is_y, e)
front_apart InRange spelling apart (x ∷ xs) [] left right is_x is_y n e = absurd (omega arith)
front_apart InRange spelling apart (x ∷ xs) (y ∷ ys) left right is_x is_y n e =
    let one = apart x y (flat_map spelling xs ++ left) (flat_map spelling ys ++ right) is_x.0 is_y.0
    (sym (append_assoc (spelling x) (flat_map spelling xs) left) ∙ e ∙ append_assoc (spelling y)
    (flat_map spelling ys) right) in
    let others = front_apart InRange spelling apart xs ys left right is_x.1 is_y.1
    (omega arith) one.1 in
    (others.0, ap (λ z. z ∷ ys) (sym one.0) ∙ ap (λ zs. x ∷ zs) others.1, others.2, others.3)

values_apart : {X : Type 0} (InRange : X → Type 0) (spelling : X → List Field)
    → IsPrefixFree InRange spelling
    → (xs ys : List X) (left right : List Field) → AllByRecursion InRange xs
    → AllByRecursion InRange ys → length xs ≡ length ys
    → flat_map spelling xs ++ left ≡ flat_map spelling ys ++ right → (xs ≡ ys) × (left ≡ right)
values_apart {X} InRange spelling apart xs ys left right is_x is_y n e = by front.0 front.1 front.3
  where
    front : (rest : List X) × (ys ≡ xs ++ rest) × AllByRecursion InRange rest
        × (left ≡ flat_map spelling rest ++ right)
    front = front_apart InRange spelling apart xs ys left right is_x is_y (omega arith) e

    by : (rest : List X) → ys ≡ xs ++ rest → left ≡ flat_map spelling rest ++ right
        → (xs ≡ ys) × (left ≡ right)
    by [] longer rests = (sym (longer ∙ append-nil xs), rests)
    by (z ∷ rest) longer rests =
        absurd (omega (arith, ap length longer, length-append xs (z ∷ rest)))

pub lists_apart : {X : Type 0} (InRange : X → Type 0) (spelling : X → List Field)
    → IsPrefixFree InRange spelling → IsPrefixFree (IsListOf InRange) (list_fields spelling)
lists_apart InRange spelling apart xs ys left right is_a is_b e =
    let counts : decimal (length xs) ≡ decimal (length ys) = cc in
    let count = decimal_injective (length xs) (length ys) (lengths_fit (length xs) is_a.count)
    (lengths_fit (length ys) is_b.count) counts in
    values_apart InRange spelling apart xs ys left right (recursion_from_All InRange xs is_a.each)
    (recursion_from_All InRange ys is_b.each) count cc

pub rows_apart : IsPrefixFree IsSheetRow row_fields
rows_apart a b left right is_a is_b e =
    let parts = triples_apart IsId IsId (IsListOf IsDesignator) name_fields name_fields
    (list_fields name_fields)
    (names_apart IsId) (names_apart IsId)
    (lists_apart IsDesignator name_fields (names_apart IsDesignator))
    (a.slot, a.part, a.designators) (b.slot, b.part, b.designators) left right
    (is_a.slot, is_a.part, is_a.designators) (is_b.slot, is_b.part, is_b.designators) e in
    (ap (λ p. record { slot = p.0; part = p.1; designators = p.2 }) parts.0, parts.1)

pub counts_apart : IsPrefixFree IsCountRow count_fields
counts_apart a b left right is_a is_b e =
    let parts = pairs_apart IsId IsCountedQuantity name_fields number_fields (names_apart IsId)
    (numbers_apart IsCountedQuantity (λ n is. omega arith))
    (a.reel, a.quantity) (b.reel, b.quantity) left right (is_a.reel, is_a.quantity)
    (is_b.reel, is_b.quantity) e in
    (ap (λ p. record { reel = p.0; quantity = p.1 }) parts.0, parts.1)
