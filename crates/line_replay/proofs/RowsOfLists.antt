-- The rows of a history whose entries have their rows in a table.
use Rattle.desk_types.proofs.Common.{[], ◌++◌, ◌+◌, ◌<◌, ◌||◌, ◌∙◌, ◌∷◌, ◌≡◌, ◌≤◌, All-from_recursion}
use Rattle.desk_types.proofs.Common.{All-permutation, AllByRecursion, ap, append-nil, arith, Bool, cases_Bool}
use Rattle.desk_types.proofs.Common.{false, filter, filter-append, History, if◌then◌else◌, inl, inr, is_gt}
use Rattle.desk_types.proofs.Common.{IsDistinct, IsJudged, IsLawful, IsPermutation, IsPermutation-refl}
use Rattle.desk_types.proofs.Common.{IsPermutation-sym, IsPermutation-trans, length, length-append}
use Rattle.desk_types.proofs.Common.{length_permutation, List, list_any, map, not, recursion_from_All, refl}
use Rattle.desk_types.proofs.Common.{same, same-sym, Some, subst, subst₂, sym, true, ℕ, ℤ}
use Rattle.line_tables.proofs.Common.{Binary, collated, filter_none, has_number, Int, is_before, IsLeast}
use Rattle.line_tables.proofs.Common.{IsPermutation-filter, one_permutation, Row, Rules}
use Rattle.desk_types.specs.declared.command.Entry.{Entry}
use Rattle.line_replay.proofs.{RowsTellLists.rows-length, Tests.before_test, Tests.neither_less}
use Rattle.line_replay.proofs.{Tests.not_below_itself, Tests.other_number}
use Rattle.line_replay.specs.{Listed.AreAt, Listed.AreRowsOf, Rows.entry_row, Rows.rows_of}
use Rattle.sqlite_value.specs.declared.value.Value.{Value}
use Rattle.std.proofs.{lemmas.List.Sorted.IsPermutation-append_right}
use Rattle.std.proofs.{lemmas.List.Sorted.IsPermutation-filter_both, lemmas.List.Sorted.IsPermutation-middle}
use Rattle.std.proofs.{lemmas.Map.Keys.IsDistinct-cons}

-- ---- the least number

least_below : (numbers others : List Value) (m n : ℤ) (more : List Value) → IsPermutation numbers (Int m ∷ others) → AllByRecursion (λ other. is_gt (collated Binary (Int m) other) ≡ false) others
    → IsPermutation numbers (Int n ∷ more) → is_gt (collated Binary (Int m) (Int n)) ≡ false
least_below numbers others m n more same low other =
    let P : Value → Type 0 = λ v. is_gt (collated Binary (Int m) v) ≡ false in
    let all = All-from_recursion P (Int m ∷ others) (not_below_itself m, low) in
    let moved = All-permutation P (Int m ∷ others) (Int n ∷ more) (IsPermutation-trans _ _ _ (IsPermutation-sym _ _ same) other) all in
    (recursion_from_All P (Int n ∷ more) moved).0

pub one_least : (rows : List Row) (m n : ℤ) → IsLeast rows (Some m) → IsLeast rows (Some n) → m ≡ n
one_least rows m n h k = neither_less m n (least_below _ h.0 m n k.0 h.1 h.2 k.1) (least_below _ k.0 n m h.0 k.1 k.2 h.1)

-- ---- the rows of the entries, and others

pub none_numbered : (rules : Rules) (H : History) (n : ℕ) → IsJudged rules H → length H < n → AllByRecursion (λ r. has_number n r ≡ false) (rows_of H)
none_numbered rules [] n judged h = tt
none_numbered rules (e ∷ H) n judged h = (other_number n H e (omega (arith, judged.0.number, h)), none_numbered rules H n judged.1 (omega (arith, h)))

left_alone : (rules : Rules) (rows rest : List Row) (H : History) (row : Row) → IsJudged rules H → IsPermutation rows (rows_of H ++ rest) → filter (has_number (length H + 1)) rows ≡ row ∷ []
    → filter (has_number (length H + 1)) rest ≡ row ∷ []
left_alone rules rows rest H row judged same found =
    let p = has_number (length H + 1) in
    let none : filter p (rows_of H) ≡ [] = filter_none p (rows_of H) (none_numbered rules H (length H + 1) judged (omega arith)) in
    let split : filter p (rows_of H ++ rest) ≡ filter p rest = filter-append p (rows_of H) rest ∙ ap (λ l. l ++ filter p rest) none in
    one_permutation row (filter p rest) (subst₂ (λ a b. IsPermutation a b) found split (IsPermutation-filter p rows (rows_of H ++ rest) same))

pub others_of : (rules : Rules) (rows : List Row) (H : History) → IsJudged rules H → AreAt rows H → (rest : List Row) × IsPermutation rows (rows_of H ++ rest)
others_of rules rows [] judged at = (rows, IsPermutation-refl rows)
others_of rules rows (e ∷ H) judged at =
    let p = has_number (length H + 1) in
    let o = others_of rules rows H judged.1 at.1 in
    let row = entry_row H e in
    let others = filter (λ r. not (p r)) o.0 in
    let apart : IsPermutation o.0 (row ∷ others) = subst (λ l. IsPermutation o.0 (l ++ others)) (left_alone rules rows o.0 H row judged.1 o.1 at.0.row) (IsPermutation-filter_both p (λ r. not (p r)) (λ _. refl) o.0) in
    (others, IsPermutation-trans _ _ _ o.1 (IsPermutation-trans _ _ _ (IsPermutation-append_right (rows_of H) o.0 (row ∷ others) apart) (IsPermutation-middle (rows_of H) row others)))

others_length : (rules : Rules) (rows : List Row) (H : History) (rest : List Row) → IsPermutation rows (rows_of H ++ rest) → length rows ≡ length H + length rest
others_length rules rows H rest same = sym (length_permutation _ _ same) ∙ length-append (rows_of H) rest ∙ ap (λ n. n + length rest) (rows-length H)

pub no_fewer : (rules : Rules) (rows : List Row) (H : History) → IsJudged rules H → AreAt rows H → length H ≤ length rows
no_fewer rules rows H judged at = let o = others_of rules rows H judged at in omega (arith, others_length rules rows H o.0 o.1)

pub more_rows : (rules : Rules) (rows : List Row) (H : History) (row : Row) → IsJudged rules H → AreAt rows H → filter (has_number (length H + 1)) rows ≡ row ∷ [] → length H < length rows
more_rows rules rows H row judged at found =
    let o = others_of rules rows H judged at in
    let some = some_left (has_number (length H + 1)) o.0 row (left_alone rules rows o.0 H row judged o.1 found) in
    omega (arith, others_length rules rows H o.0 o.1, some)
  where
    some_left : (p : Row → Bool) (rest : List Row) (row : Row) → filter p rest ≡ row ∷ [] → 0 < length rest
    some_left p [] row h = absurd (cc)
    some_left p (r ∷ rest) row h = omega arith

pub all_rows : (rules : Rules) (rows : List Row) (H : History) → IsJudged rules H → AreAt rows H → length rows ≡ length H → IsPermutation rows (rows_of H)
all_rows rules rows H judged at long =
    let o = others_of rules rows H judged at in
    subst (IsPermutation rows) (append-nil (rows_of H)) (subst (λ l. IsPermutation rows (rows_of H ++ l)) (nothing o.0 (omega (arith, others_length rules rows H o.0 o.1, long))) o.1)
  where
    nothing : (rest : List Row) → length rest ≡ 0 → rest ≡ []
    nothing [] h = refl
    nothing (r ∷ rest) h = absurd (omega (arith, h))

-- ---- the UniqueIDs

none_found : (p q : Row → Bool) (rows : List Row) (row : Row) → list_any q rows ≡ false → filter p rows ≡ row ∷ [] → q row ≡ false
none_found p q [] row none found = absurd (cc)
none_found p q (r ∷ rows) row none found = by (p r) (q r) refl (none_found p q rows row) none found
  where
    by : (b c : Bool) → q r ≡ c → (list_any q rows ≡ false → filter p rows ≡ row ∷ [] → q row ≡ false) → (c || list_any q rows) ≡ false → (if b then r ∷ filter p rows else filter p rows) ≡ row ∷ [] → q row ≡ false
    by b true is more h found = absurd (cc)
    by true false is more h found = let one : r ≡ row = cc in ap q (sym one) ∙ is
    by false false is more h found = more h found

others_uids : (rules : Rules) (uid : List ℕ) (n : ℕ) (rows : List Row) (H : History) → list_any (is_before uid n) rows ≡ false → IsJudged rules H → AreAt rows H → length H < n
    → AllByRecursion (λ other. same uid other ≡ false) (map (λ (e : Entry). e.stamped.uid) H)
others_uids rules uid n rows [] none judged at low = tt
others_uids rules uid n rows (e ∷ H) none judged at low = (one, others_uids rules uid n rows H none judged.1 at.1 (omega (arith, low)))
  where
    one : same uid e.stamped.uid ≡ false
    one = elim (cases_Bool (same uid e.stamped.uid)) [
      | inl is ↦
          let yes_before = before_test uid n H e (same-sym e.stamped.uid uid ∙ is) (omega (arith, judged.0.number, low)) in
          let not_before = none_found (has_number (length H + 1)) (is_before uid n) rows (entry_row H e) none at.0.row in
          absurd (let both = sym yes_before ∙ not_before in cc)
      | inr other ↦ other
    ]

pub none_yet : IsDistinct same []
unfolding IsDistinct
none_yet = tt

pub distinct_uids : (rules : Rules) (rows : List Row) (H : History) → IsJudged rules H → AreAt rows H → IsDistinct same (map (λ (e : Entry). e.stamped.uid) H)
distinct_uids rules rows [] judged at = none_yet
distinct_uids rules rows (e ∷ H) judged at =
    IsDistinct-cons same e.stamped.uid (map (λ (x : Entry). x.stamped.uid) H) (others_uids rules e.stamped.uid (length H + 1) rows H at.0.first judged.1 at.1 (omega arith)) (distinct_uids rules rows H judged.1 at.1)

pub lawful_at : (rules : Rules) (greatest : ℕ) (rows : List Row) (H : History) → IsJudged rules H → AreAt rows H → length H ≤ greatest → IsLawful rules greatest H
lawful_at rules greatest rows H judged at low = record { judged = judged; uids = distinct_uids rules rows H judged at; numbers = low }

pub are_rows : (rules : Rules) (greatest : ℕ) (rows : List Row) (H : History) → IsJudged rules H → AreAt rows H → length H ≤ greatest → length rows ≡ length H → AreRowsOf rules greatest rows H
are_rows rules greatest rows H judged at low long = record { lawful = lawful_at rules greatest rows H judged at low; same = all_rows rules rows H judged at long }
