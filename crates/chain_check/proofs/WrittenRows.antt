-- One more row, or the rows of one more file, of an answer.
use Rattle.desk_types.proofs.Common.{[], ◌++◌, ◌+◌, ◌<◌, ◌∙◌, ◌∷◌, ◌≡◌, ap, append_assoc, flat_map}
use Rattle.desk_types.proofs.Common.{flat_map-append, get_or, length, List, map, map-append, sym, take}
use Rattle.desk_types.proofs.Common.{take-next, ℕ}
use Rattle.desk_laws.proofs.Common.{DeskFile}
use Rattle.chain_check.specs.{Rows.answer_over, Rows.asked_of, Rows.facts_of, Rows.header_of, Rows.rows_in}
use Rattle.chain_check.specs.{Rows.rows_over, Rows.rows_text, declared.question.Question.Question}
use Rattle.std.proofs.lemmas.List.{flat_map_more}
use Rattle.trace_reports.specs.{Csv.csv_text, Csv.record_text, Sets.Fields}

pub row-next : {X : Type 0} (fields : X → Fields) (rows : List X) (i : ℕ) (row : X) (text : List ℕ) → i < length rows → row ≡ get_or rows i row
    → (text ++ rows_text (map fields (take i rows))) ++ record_text (fields row) ≡ text ++ rows_text (map fields (take (i + 1) rows))
row-next fields rows i row text inside is =
    flat_map_more record_text text (map fields (take i rows)) (fields row)
    ∙ ap (λ rs. text ++ rows_text rs) (sym (map-append fields (take i rows) (row ∷ [])))
    ∙ ap (λ rs. text ++ rows_text (map fields rs)) (sym (take-next rows i row inside is))

pub answer-next : (question : Question) (paths : List (List ℕ)) (files : List DeskFile) (file : DeskFile) (path : List ℕ) → path ≡ get_or paths (length files) []
    → answer_over question paths files ++ rows_text (rows_in question path (facts_of file) (asked_of question file.whole)) ≡ answer_over question paths (file ∷ files)
answer-next question paths files file path is =
    let here : List ℕ → List Fields = λ path. rows_in question path (facts_of file) (asked_of question file.whole) in
    let before = rows_over question paths files in
    append_assoc (record_text (header_of question)) (flat_map record_text before) (rows_text (here path))
    ∙ ap (λ rows. record_text (header_of question) ++ rows) (sym (flat_map-append record_text before (here path)))
    ∙ ap (λ path. csv_text (header_of question) (before ++ here path)) is
