-- Rows that a query shows by a range of rowids.
use Rattle.desk_types.proofs.Common.{[], ◌&&◌, ◌+◌, ◌<◌, ◌∙◌, ◌∷◌, ◌≡◌, ◌≤◌, ap, arith, Bool, false, filter}
use Rattle.desk_types.proofs.Common.{if◌then◌else◌, int_ranked, is_gt, is_lt, length, List, not}
use Rattle.desk_types.proofs.Common.{ordering_reverse, pos, refl, Some, sym, true, true≢false, ℕ}
use Rattle.line_tables.proofs.Common.{Binary, binary, column, Compare, Ge, is_true, Lt, Row, value_cmp}
use Rattle.line_tables.proofs.Common.{value_cmp-Int, value_cmp_total}
use Rattle.line_replay.specs.Placed.{is_from}
use Rattle.line_tables.proofs.Keyed.{truth_told as test_is}
use Rattle.sqlite_sql.specs.Ops.{from_truth}
use Rattle.sqlite_value.proofs.OrderLemmas.{value_cmp-Null}
use Rattle.sqlite_value.specs.declared.value.Value.{Value}
use Rattle.sqlite_value.specs.declared.value.Value.TheVariants.{Blob, Int, Null, Real, Text}
use Rattle.std.proofs.Common.{Equal, Greater, Less, Ordering}
use Rattle.std.proofs.Math.Facts.{ltb_yes}
use Rattle.std.proofs.lemmas.Cmp.{upto}
use Rattle.std.specs.Ordering.{int_cmp, is_ge}

-- ---- a comparison in SQL, by the order of values

pub from_is : (v : Value) (n : ℕ) → is_true (binary (Compare Ge Binary) v (Int (pos n))) ≡ is_ge (value_cmp v (Int (pos n)))
unfolding binary
from_is Null n = sym (ap is_ge (value_cmp-Null (Int (pos n))))
from_is (Int m) n = test_is _
from_is (Real x) n = test_is _
from_is (Text t) n = test_is _
from_is (Blob b) n = test_is _

tests_are : (o p : Ordering) → (is_true (from_truth (Some (is_ge o))) && (is_true (from_truth (Some (is_lt p))) && true)) ≡ (is_ge o && not (is_ge p))
tests_are Less p = refl
tests_are Equal Less = refl
tests_are Equal Equal = refl
tests_are Equal Greater = refl
tests_are Greater Less = refl
tests_are Greater Equal = refl
tests_are Greater Greater = refl

pub range_is : (v : Value) (first end : ℕ) → (is_true (binary (Compare Ge Binary) v (Int (pos first))) && (is_true (binary (Compare Lt Binary) v (Int (pos end))) && true)) ≡ (is_ge (value_cmp v (Int (pos first))) && not (is_ge (value_cmp v (Int (pos end)))))
unfolding binary
range_is Null first end = sym (ap (λ (o : Ordering). is_ge o && not (is_ge (value_cmp Null (Int (pos end))))) (value_cmp-Null (Int (pos first))))
range_is (Int m) first end = tests_are (value_cmp (Int m) (Int (pos first))) (value_cmp (Int m) (Int (pos end)))
range_is (Real x) first end = tests_are (value_cmp (Real x) (Int (pos first))) (value_cmp (Real x) (Int (pos end)))
range_is (Text t) first end = tests_are (value_cmp (Text t) (Int (pos first))) (value_cmp (Text t) (Int (pos end)))
range_is (Blob b) first end = tests_are (value_cmp (Blob b) (Int (pos first))) (value_cmp (Blob b) (Int (pos end)))

-- ---- values from a number on

not_above : (o : Ordering) → is_ge o ≡ true → is_gt (ordering_reverse o) ≡ false
not_above Less h = absurd (true≢false (sym h))
not_above Equal h = refl
not_above Greater h = refl

not_below : (o : Ordering) → is_gt o ≡ false → is_ge (ordering_reverse o) ≡ true
not_below Less h = refl
not_below Equal h = refl
not_below Greater h = absurd (true≢false h)

pub at_most : (m n : ℕ) → m ≤ n → is_gt (value_cmp (Int (pos m)) (Int (pos n))) ≡ false
at_most m n low = ap is_gt (value_cmp-Int (pos m) (pos n)) ∙ by (int_cmp (pos m) (pos n)) refl
  where
    by : (o : Ordering) → o ≡ int_cmp (pos m) (pos n) → is_gt o ≡ false
    by Less is = refl
    by Equal is = refl
    by Greater is = absurd (let above : n < m = ltb_yes (int_ranked (pos m) (pos n) Greater is).lt in omega (arith, above, low))

-- A value from a number on is also from any smaller one on.
pub from_lower : (m n : ℕ) (v : Value) → m ≤ n → is_gt (value_cmp (Int (pos n)) v) ≡ false → is_ge (value_cmp v (Int (pos m))) ≡ true
from_lower m n v low h = ap is_ge (value_cmp_total.antisymm v (Int (pos m))) ∙ not_below _ (upto value_cmp_total (Int (pos m)) (Int (pos n)) v (at_most m n low) h)

from_earlier : (m n : ℕ) (v : Value) → m ≤ n → is_ge (value_cmp v (Int (pos n))) ≡ true → is_ge (value_cmp v (Int (pos m))) ≡ true
from_earlier m n v low h = from_lower m n v low (ap is_gt (value_cmp_total.antisymm (Int (pos n)) v) ∙ not_above _ h)

-- ---- counted rows

abbrev pub in_range : ℕ → ℕ → Row → Bool
in_range first end r = is_from first r && not (is_from end r)

pub range_more : (first end : ℕ) → first ≤ end → (rows : List Row) → length (filter (is_from first) rows) ≡ length (filter (in_range first end) rows) + length (filter (is_from end) rows)
range_more first end low [] = refl
range_more first end low (r ∷ rows) = go (is_from first r) (is_from end r) (from_earlier first end (column r 0) low) (range_more first end low rows)
  where
    go : (a b : Bool) → (b ≡ true → a ≡ true) → length (filter (is_from first) rows) ≡ length (filter (in_range first end) rows) + length (filter (is_from end) rows)
        → length (if a then r ∷ filter (is_from first) rows else filter (is_from first) rows)
        ≡ length (if a && not b then r ∷ filter (in_range first end) rows else filter (in_range first end) rows) + length (if b then r ∷ filter (is_from end) rows else filter (is_from end) rows)
    go true true up more = omega (arith, more)
    go true false up more = omega (arith, more)
    go false false up more = more
    go false true up more = absurd (true≢false (sym (up refl)))
