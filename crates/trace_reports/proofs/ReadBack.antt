-- Reading a report back with `csv`.
use Rattle.desk_types.proofs.Common.{[], ◌++◌, ◌+◌, ◌∙◌, ◌∷◌, ◌≡◌, ◌≢◌, ◌≤◌, All, All-head, All-tail, ap}
use Rattle.desk_types.proofs.Common.{arith, flat_map, if◌then◌else◌, length, length-append, List, refl, suc}
use Rattle.desk_types.proofs.Common.{zero, ℕ}
use Rattle.csv.proofs.RoundTrip.{read-write}
use Rattle.csv.specs.{Machine.next_record, Reading.default_config, Reading.records, Reading.records_from}
use Rattle.csv.specs.{Writing.default_writer, Writing.is_blank, Writing.read_back, Writing.row_body}
use Rattle.trace_reports.specs.Csv.{csv_text, record_text}
use Rattle.csv.specs.declared.parser.State.TheVariants as st

as_it_was : (row : List (List ℕ)) → row ≢ [] → read_back row ≡ row
as_it_was [] some = absurd (some refl)
as_it_was (x ∷ row) some = refl

read-all : (n : ℕ) (rows : List (List (List ℕ))) → length rows ≤ n → All (λ r. r ≢ []) rows
    → records_from default_config n st.StartRecord (flat_map record_text rows) ≡ rows
unfolding records_from next_record
read-all zero [] fits some = refl
read-all zero (row ∷ rows) fits some = absurd (omega arith)
read-all (suc n) [] fits some = refl
read-all (suc n) (row ∷ rows) fits some =
    rw (read-write row (flat_map record_text rows))
    (ap (λ r. r ∷ records_from default_config n st.StartRecord (flat_map record_text rows)) (as_it_was row (All-head (λ (r : List (List ℕ)). r ≢ []) row rows some))
    ∙ ap (λ l. row ∷ l) (read-all n rows (omega arith) (All-tail (λ (r : List (List ℕ)). r ≢ []) row rows some)))

some-byte : (row : List (List ℕ)) → 1 ≤ length (record_text row)
some-byte row =
    let blank : List ℕ = if is_blank default_writer row then 34 ∷ 34 ∷ [] else [] in
    let whole = length-append (row_body default_writer row) (blank ++ 10 ∷ []) in
    let end = length-append blank (10 ∷ []) in
    omega (arith, whole, end)

bytes : (rows : List (List (List ℕ))) → length rows ≤ length (flat_map record_text rows)
bytes [] = omega arith
bytes (row ∷ rows) = omega (arith, some-byte row, bytes rows, length-append (record_text row) (flat_map record_text rows))

pub reads-back : (header : List (List ℕ)) (rows : List (List (List ℕ))) → All (λ r. r ≢ []) (header ∷ rows)
    → records default_config (csv_text header rows) ≡ header ∷ rows
reads-back header rows some = read-all (length (csv_text header rows) + 1) (header ∷ rows) (omega (arith, bytes (header ∷ rows))) some
