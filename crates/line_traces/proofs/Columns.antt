-- Values of rows, and their equality.
use Rattle.desk_types.proofs.Common.{◌<◌, ◌∙◌, ◌≡◌, ◌≢◌, ap, arith, Bool, false, int_cmp, is_at-by_name}
use Rattle.desk_types.proofs.Common.{length, map, Name, nat_tests, pos, range_with_len, same, same-true}
use Rattle.desk_types.proofs.Common.{subst, sym, true, ℕ}
use Rattle.desk_laws.proofs.Common.{Placement}
use Rattle.line_tables.proofs.Common.{Binary, binary, column, equal, flag, Int, Null, placement_columns, Row}
use Rattle.line_tables.proofs.Common.{Text, Value, value_cmp-Int, value_cmp-Text}
use Rattle.desk_types.specs.declared.row.PlacementRow.{PlacementRow}
use Rattle.line_tables.proofs.Keyed.{tied_twice, truth_told}
use Rattle.line_traces.specs.Committed.{placed_columns}
use Rattle.std.proofs.Common.{Equal, is_eq}
use Rattle.std.proofs.lemmas.List.{get_or_default, same_lists}
use Rattle.std.proofs.lemmas.List.FromFn.{get_or-map-range_with_len, length-map-range_with_len}

-- ---- rows

pub all-columns : (row : Row) (n : ℕ) → length row ≡ n → row ≡ map (column row) (range_with_len 0 n)
all-columns row n is =
    same_lists row (map (column row) (range_with_len 0 n)) (is ∙ sym (length-map-range_with_len (column row) 0 n)) (λ k d within.
    get_or_default row k d Null within ∙ sym (get_or-map-range_with_len (column row) 0 n k k d (subst (λ m. k < m) is within) (omega arith)))

-- A row without a flag in the flag's column belongs to no piece.
pub no_flag : (row : Row) → ((b : Bool) → column row 10 ≢ Int (flag b)) → (p : Placement) → row ≢ placed_columns p
no_flag row none p is = none p.overdue (ap (λ r. column r 10) is)

pub no_flag_in_row : (row : Row) → ((b : Bool) → column row 7 ≢ Int (flag b)) → (p : PlacementRow) → row ≢ placement_columns p
no_flag_in_row row none p is = none p.overdue (ap (λ r. column r 7) is)

-- ---- equality

pub equal-text : (a b : Name) → equal Binary (Text a) (Text b) ≡ same a b
unfolding binary
equal-text a b = truth_told _ ∙ ap is_eq (value_cmp-Text a b) ∙ is_at-by_name a b

pub equal-flag : (b : Bool) → equal Binary (Int (flag b)) (Int (pos 1)) ≡ b
unfolding binary
equal-flag true = truth_told _ ∙ ap is_eq (value_cmp-Int (pos 1) (pos 1))
equal-flag false = truth_told _ ∙ ap is_eq (value_cmp-Int (pos 0) (pos 1))

-- ---- keys

one-pos : (m n : ℕ) → int_cmp (pos m) (pos n) ≡ Equal → m ≡ n
one-pos m n is = grind (arith, nat_tests)

pub one-int : (v : Value) (m n : ℕ) → equal Binary v (Int (pos m)) ≡ true → equal Binary v (Int (pos n)) ≡ true → m ≡ n
one-int v m n first second = one-pos m n (sym (value_cmp-Int (pos m) (pos n)) ∙ tied_twice v (Int (pos m)) (Int (pos n)) first second)

pub one-text : (v : Value) (m n : Name) → equal Binary v (Text m) ≡ true → equal Binary v (Text n) ≡ true → m ≡ n
one-text v m n first second = same-true m n (sym (is_at-by_name m n) ∙ ap is_eq (sym (value_cmp-Text m n) ∙ tied_twice v (Text m) (Text n) first second))
