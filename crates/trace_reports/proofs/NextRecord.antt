-- A report with one more row.
use Rattle.desk_types.proofs.Common.{[], ◌++◌, ◌+◌, ◌<◌, ◌∙◌, ◌∷◌, ◌≡◌, ap, append-nil, append_assoc}
use Rattle.desk_types.proofs.Common.{flat_map, flat_map-append, get_or, length, List, map, map-append, sym}
use Rattle.desk_types.proofs.Common.{take, take-next, ℕ}
use Rattle.trace_reports.specs.Csv.{csv_text, record_text}

pub text-next : {X : Type 0} (header : List (List ℕ)) (fields : X → List (List ℕ)) (rows : List X) (i : ℕ) (row : X) → i < length rows → row ≡ get_or rows i row
    → csv_text header (map fields (take (i + 1) rows)) ≡ csv_text header (map fields (take i rows)) ++ record_text (fields row)
text-next header fields rows i row inside is =
    ap (λ l. csv_text header (map fields l)) (take-next rows i row inside is)
    ∙ ap (csv_text header) (map-append fields (take i rows) (row ∷ []))
    ∙ ap (λ l. record_text header ++ l) (flat_map-append record_text (map fields (take i rows)) (fields row ∷ []))
    ∙ ap (λ l. record_text header ++ (flat_map record_text (map fields (take i rows)) ++ l)) (append-nil (record_text (fields row)))
    ∙ sym (append_assoc (record_text header) (flat_map record_text (map fields (take i rows))) (record_text (fields row)))
