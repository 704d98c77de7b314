-- Later records don't change the content of a file.
use Rattle.desk_types.proofs.Common.{[], ◌++◌, ◌+◌, ◌<◌, ◌∙◌, ◌∷◌, ◌≡◌, ◌≤◌, ◌⊎◌, ap, arith, Bool, cases_Bool}
use Rattle.desk_types.proofs.Common.{Err, if◌then◌else◌, inl, inr, length, List, nat_le, nat_tests, None, Ok}
use Rattle.desk_types.proofs.Common.{Option, refl, Result, Some, suc, zero, ℕ}
use Rattle.cfx_profile.specs.Fault.{◌>>=◌}
use Rattle.csv.specs.{Machine.next_record, Machine.Read, Reading.records_from, Reading.records_next}
use Rattle.csv.specs.{declared.parser.Config.Config, declared.parser.State.State}
use Rattle.imports.specs.{File.each, File.Record, File.row_at, File.rows_of, File.some_rows}
use Rattle.imports.specs.{declared.fault.ImportFault.ImportFault}
use Rattle.imports.specs.{declared.fault.ImportFault.TheVariants.BadHeader}
use Rattle.imports.specs.{declared.records.TheConstants.MOST_RECORDS, declared.rows.TheConstants.FIRST_ROW}
use Rattle.imports.specs.{declared.rows.TheConstants.LAST_ROW}

front_of : (cfg : Config) (m n : ℕ) (s : State) (xs : List ℕ) → m ≤ n
    → (records_from cfg n s xs ≡ records_from cfg m s xs)
    ⊎ ((rest : List Record) × (records_from cfg n s xs ≡ records_from cfg m s xs ++ rest) × (length (records_from cfg m s xs) ≡ m))
unfolding records_from
front_of cfg zero n s xs fits = inr (records_from cfg n s xs, refl, refl)
front_of cfg (suc m) zero s xs fits = absurd (omega arith)
front_of cfg (suc m) (suc n) s xs fits = go (λ p. front_of cfg m n p.1 p.2 (omega arith)) (next_record cfg s [] [] xs)
  where
    go : ((p : Read) → (records_from cfg n p.1 p.2 ≡ records_from cfg m p.1 p.2)
        ⊎ ((rest : List Record) × (records_from cfg n p.1 p.2 ≡ records_from cfg m p.1 p.2 ++ rest) × (length (records_from cfg m p.1 p.2) ≡ m))) → (o : Option Read)
        → (records_next (records_from cfg n) o ≡ records_next (records_from cfg m) o)
        ⊎ ((rest : List Record) × (records_next (records_from cfg n) o ≡ records_next (records_from cfg m) o ++ rest) × (length (records_next (records_from cfg m) o) ≡ suc m))
    go later None = inl refl
    go later (Some p) = elim (later p) [
      | inl same ↦ inl (ap (λ l. p.0 ∷ l) same)
      | inr more ↦ inr (more.0, ap (λ l. p.0 ∷ l) more.1, ap suc more.2)
    ]

-- Records behind the last possible row change nothing.
each_front : {X : Type 0} (reading : ℕ → Record → Result X ImportFault) (line : ℕ) (rs ss : List Record) → line ≤ suc LAST_ROW → suc LAST_ROW < line + length rs
    → each reading line (rs ++ ss) ≡ each reading line rs
each_front reading line [] ss before behind = absurd (omega arith)
each_front reading line (r ∷ rs) ss before behind = elim (cases_Bool (nat_le line LAST_ROW)) [
  | inl inside ↦ ap (λ later. row_at reading line r >>= (λ x. later >>= (λ xs. Ok (x ∷ xs)))) (each_front reading (suc line) rs ss (grind (arith, nat_tests, inside)) (omega arith))
  | inr outside ↦ rw outside refl
]

rows_front : {X : Type 0} (is_header : Record → Bool) (reading : ℕ → Record → Result X ImportFault) (rs ss : List Record) → length rs ≡ MOST_RECORDS
    → rows_of is_header reading (rs ++ ss) ≡ rows_of is_header reading rs
rows_front is_header reading [] ss all = absurd (omega arith)
rows_front is_header reading (r ∷ rs) ss all = ap (λ rows. if is_header r then rows >>= some_rows else Err BadHeader) (each_front reading FIRST_ROW rs ss (omega arith) (omega arith))

pub decided : {X : Type 0} (is_header : Record → Bool) (reading : ℕ → Record → Result X ImportFault) (cfg : Config) (s : State) (xs : List ℕ) (n : ℕ) → MOST_RECORDS ≤ n
    → rows_of is_header reading (records_from cfg n s xs) ≡ rows_of is_header reading (records_from cfg MOST_RECORDS s xs)
decided is_header reading cfg s xs n fits = elim (front_of cfg MOST_RECORDS n s xs fits) [
  | inl same ↦ ap (rows_of is_header reading) same
  | inr more ↦ ap (rows_of is_header reading) more.1 ∙ rows_front is_header reading (records_from cfg MOST_RECORDS s xs) more.0 more.2
]
