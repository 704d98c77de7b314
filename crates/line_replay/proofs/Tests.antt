-- SQL's tests of the columns of an entry's row.
use Rattle.desk_types.proofs.Common.{◌&&◌, ◌<◌, ◌∙◌, ◌≡◌, ap, ap₂, arith, false, History, int_cmp, int_ranked}
use Rattle.desk_types.proofs.Common.{ints, is_gt, is_lt, List, nat_tests, ordering_reverse, pos, refl, same}
use Rattle.desk_types.proofs.Common.{sym, texts_ties, tied_itself, true, ℕ, ℤ}
use Rattle.line_tables.proofs.Common.{Binary, binary, collated, Compare, equal, has_number, has_uid, Int}
use Rattle.line_tables.proofs.Common.{is_before, is_true, Lt, Text, value_cmp, value_cmp-Int, value_cmp-Text}
use Rattle.line_tables.proofs.Common.{value_cmp_total}
use Rattle.desk_types.specs.declared.command.Entry.{Entry}
use Rattle.line_replay.specs.Rows.{entry_row}
use Rattle.line_tables.proofs.Keyed.{number_test, truth_told}
use Rattle.std.proofs.Common.{Equal, Greater, is_eq, Less, Ordering}
use Rattle.std.proofs.lemmas.Cmp.{int_cmp_total}

text_test : (a b : List ℕ) → equal Binary (Text a) (Text b) ≡ is_eq (value_cmp (Text a) (Text b))
unfolding binary
text_test a b = truth_told _

lower_test : (a b : ℕ) → is_true (binary (Compare Lt Binary) (Int (pos a)) (Int (pos b))) ≡ is_lt (value_cmp (Int (pos a)) (Int (pos b)))
unfolding binary
lower_test a b = truth_told _

pub uid_test : (uid : List ℕ) (G : History) (e : Entry) → has_uid uid (entry_row G e) ≡ same e.stamped.uid uid
uid_test uid G e = text_test e.stamped.uid uid ∙ ap is_eq (value_cmp-Text e.stamped.uid uid) ∙ sym (texts_ties e.stamped.uid uid)

lower_cmp : (m n : ℕ) → m < n → value_cmp (Int (pos m)) (Int (pos n)) ≡ Less
lower_cmp m n h = value_cmp-Int (pos m) (pos n) ∙ grind (arith, ints, nat_tests)

pub other_number : (n : ℕ) (G : History) (e : Entry) → e.number < n → has_number n (entry_row G e) ≡ false
other_number n G e low = number_test e.number n ∙ ap is_eq (lower_cmp e.number n low)

pub before_test : (uid : List ℕ) (n : ℕ) (G : History) (e : Entry) → same e.stamped.uid uid ≡ true → e.number < n → is_before uid n (entry_row G e) ≡ true
before_test uid n G e is low =
    let lower : is_true (binary (Compare Lt Binary) (Int (pos e.number)) (Int (pos n))) ≡ true = lower_test e.number n ∙ ap is_lt (lower_cmp e.number n low) in
    ap₂ (λ a b. a && b) (uid_test uid G e ∙ is) lower

pub not_below_itself : (n : ℤ) → is_gt (collated Binary (Int n) (Int n)) ≡ false
not_below_itself n = ap is_gt (tied_itself value_cmp_total (Int n))

between : (o : Ordering) → is_gt o ≡ false → is_gt (ordering_reverse o) ≡ false → o ≡ Equal
between Less a b = absurd (cc)
between Equal a b = refl
between Greater a b = absurd (cc)

pub neither_less : (m n : ℤ) → is_gt (collated Binary (Int m) (Int n)) ≡ false → is_gt (collated Binary (Int n) (Int m)) ≡ false → m ≡ n
neither_less m n h k =
    let first : is_gt (int_cmp m n) ≡ false = sym (ap is_gt (value_cmp-Int m n)) ∙ h in
    let second : is_gt (ordering_reverse (int_cmp m n)) ≡ false = sym (ap is_gt (int_cmp_total.antisymm n m)) ∙ sym (ap is_gt (value_cmp-Int n m)) ∙ k in
    int_ranked m n Equal (sym (between (int_cmp m n) first second))
