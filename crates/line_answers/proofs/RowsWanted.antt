-- A text with one more row, if it is wanted.
use Rattle.desk_types.proofs.Common.{[], ◌++◌, ◌+◌, ◌<◌, ◌∙◌, ◌∷◌, ◌≡◌, ap, append-nil, append_assoc, Bool}
use Rattle.desk_types.proofs.Common.{false, filter, filter-append, flat_map, flat_map-append, get_or}
use Rattle.desk_types.proofs.Common.{if◌then◌else◌, length, List, map, map-append, refl, sym, take, take-next, true, ℕ}
use Rattle.line_answers.specs.Csv.{csv_text, record_text}

one_row : {X : Type 0} (fields : X → List (List ℕ)) (p : X → Bool) (row : X)
    → flat_map record_text (map fields (filter p (row ∷ []))) ≡ (if p row then record_text (fields row) else [])
one_row fields p row = elim (p row) as
    (λ b. flat_map record_text (map fields (if b then row ∷ [] else [])) ≡ (if b then record_text (fields row) else []))
    [ true ↦ append-nil (record_text (fields row)) | false ↦ refl ]

pub rows-next : {X Y : Type 0} (g : X → Y) (header : List (List ℕ)) (fields : Y → List (List ℕ)) (p : Y → Bool)
    (rows : List X) (i : ℕ) (row : X) → i < length rows → row ≡ get_or rows i row
    → csv_text header (map fields (filter p (map g (take (i + 1) rows))))
    ≡ csv_text header (map fields (filter p (map g (take i rows))))
    ++ (if p (g row) then record_text (fields (g row)) else [])
rows-next g header fields p rows i row inside is =
    let front = map g (take i rows) in
    let before = map fields (filter p front) in
    ap (λ l. csv_text header (map fields (filter p (map g l)))) (take-next rows i row inside is)
    ∙ ap (λ l. csv_text header (map fields (filter p l))) (map-append g (take i rows) (row ∷ []))
    ∙ ap (λ l. csv_text header (map fields l)) (filter-append p front (g row ∷ []))
    ∙ ap (csv_text header) (map-append fields (filter p front) (filter p (g row ∷ [])))
    ∙ ap (λ l. record_text header ++ l)
    (flat_map-append record_text before (map fields (filter p (g row ∷ []))))
    ∙ ap (λ l. record_text header ++ (flat_map record_text before ++ l)) (one_row fields p (g row))
    ∙ sym (append_assoc (record_text header) (flat_map record_text before)
    (if p (g row) then record_text (fields (g row)) else []))
