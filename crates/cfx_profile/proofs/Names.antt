-- Names as a test and as a fact.
use Rattle.desk_types.proofs.Common.{◌≡◌, ◌≤◌, All, AllPass-from_list_all, arith, false, is_designator_byte}
use Rattle.desk_types.proofs.Common.{IsDesignator, IsId, List, list_all, Name, nat_tests, None, Option, refl}
use Rattle.desk_types.proofs.Common.{Some, SomeIff, true, ℕ}
use Rattle.cfx_profile.specs.Forms.{designator_of, id_of, is_designator, is_id, is_printable}
use Rattle.std.proofs.lemmas.List.Sums.{list_all-from_AllPass}

printable : (b : ℕ) → is_printable b ≡ true → (0x20 ≤ b) × (b ≤ 0x7e)
unfolding is_printable
printable b is = grind (arith, nat_tests)

printable_test : (b : ℕ) → (0x20 ≤ b) × (b ≤ 0x7e) → is_printable b ≡ true
unfolding is_printable
printable_test b is = grind (arith, nat_tests)

all_printable : (bytes : List ℕ) → All (λ b. (0x20 ≤ b) × (b ≤ 0x7e)) bytes → list_all is_printable bytes ≡ true
all_printable bytes each = list_all-from_AllPass is_printable bytes (λ k d inside. printable_test _ (each k d inside))

is_id-from_IsId : (bytes : List ℕ) → IsId bytes → is_id bytes ≡ true
is_id-from_IsId bytes is =
    let some = is.some in
    let fits = is.fits in
    let all = all_printable bytes is.printable in
    let first = is.no_space_first in
    let last = is.no_space_last in
    grind (arith, nat_tests)

IsId-from_is_id : (bytes : List ℕ) → is_id bytes ≡ true → IsId bytes
IsId-from_is_id bytes is =
    let all : list_all is_printable bytes ≡ true = grind (arith, nat_tests) in
    record {
      some = grind (arith, nat_tests);
      fits = grind (arith, nat_tests);
      printable = λ k d inside. printable _ (AllPass-from_list_all is_printable bytes all k d inside);
      no_space_first = grind (arith, nat_tests);
      no_space_last = grind (arith, nat_tests);
    }

pub id_of-read : (read : Option Name) (bytes : List ℕ) → SomeIff read (IsId bytes) bytes → read ≡ id_of bytes
unfolding id_of
id_of-read (Some name) bytes is = let test = is_id-from_IsId bytes is.0 in let same = is.1 in grind arith
id_of-read None bytes none = elim (is_id bytes) as (λ b. is_id bytes ≡ b → None ≡ id_of bytes) [ true ↦ λ e. absurd (none (IsId-from_is_id bytes e)) | false ↦ λ e. rw e refl ] refl

is_designator-from_IsDesignator : (bytes : List ℕ) → IsDesignator bytes → is_designator bytes ≡ true
is_designator-from_IsDesignator bytes is =
    let some = is.some in
    let fits = is.fits in
    let all = list_all-from_AllPass is_designator_byte bytes is.marks in
    grind (arith, nat_tests)

IsDesignator-from_is_designator : (bytes : List ℕ) → is_designator bytes ≡ true → IsDesignator bytes
IsDesignator-from_is_designator bytes is =
    let all : list_all is_designator_byte bytes ≡ true = grind (arith, nat_tests) in
    record {
      some = grind (arith, nat_tests);
      fits = grind (arith, nat_tests);
      marks = AllPass-from_list_all is_designator_byte bytes all;
    }

pub designator_of-read : (read : Option Name) (bytes : List ℕ) → SomeIff read (IsDesignator bytes) bytes → read ≡ designator_of bytes
unfolding designator_of
designator_of-read (Some name) bytes is = let test = is_designator-from_IsDesignator bytes is.0 in let same = is.1 in grind arith
designator_of-read None bytes none = elim (is_designator bytes) as (λ b. is_designator bytes ≡ b → None ≡ designator_of bytes) [ true ↦ λ e. absurd (none (IsDesignator-from_is_designator bytes e)) | false ↦ λ e. rw e refl ] refl
