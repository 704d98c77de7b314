-- The book as CSV.
use Rattle.std.specs.Prelude.{ℕ, nat_lt, Bool, ◌==◌, List, [], ◌∷◌, map, filter, codes, decimal, string_bytes, if◌then◌else◌}
use Rattle.std.specs.List.{list_any}
use Rattle.desk_types.specs.History.{History}
use Rattle.line_book.specs.declared.note.Note.{Note}
use Rattle.line_book.specs.declared.row.BookRow.{BookRow}
use Rattle.line_book.specs.Book.{Book, is_open}
use Rattle.line_book.specs.Undecided.{undecided}
use Rattle.line_answers.specs.Csv.{csv_text}
use Rattle.line_answers.specs.declared.book.Wanted.{Wanted}
use Rattle.line_answers.specs.declared.book.Wanted.TheVariants.{After, Undecided}

-- The columns of a row: its numbers, and the bytes of its texts.
pub record Written : Type 0 where
  pub number : ℕ
  pub after : ℕ
  pub kind : List ℕ
  pub source : List ℕ
  pub uid : List ℕ
  pub machine : List ℕ
  pub slot : List ℕ
  pub board : List ℕ
  pub reel : List ℕ
  pub word : List ℕ
  pub of : ℕ
  pub told : List ℕ

abbrev pub written_row : BookRow → Written
written_row row = record {
  number = row.number;
  after = row.after;
  kind = string_bytes row.kind;
  source = string_bytes row.source;
  uid = string_bytes row.uid;
  machine = string_bytes row.machine;
  slot = string_bytes row.slot;
  board = string_bytes row.board;
  reel = string_bytes row.reel;
  word = string_bytes row.word;
  of = row.of;
  told = string_bytes row.told;
}

-- Whether one of these entries has the number.
abbrev pub has_number : List Note → ℕ → Bool
has_number notes number = list_any (λ (n : Note). n.number == number) notes

-- What the entry with the number still asks for: it is open and stops its machine, or else it waits
-- for a decision, or neither.
abbrev pub standing : (open_notes waiting : List Note) → ℕ → List ℕ
standing open_notes waiting number =
    if has_number open_notes number then codes "open"
    else if has_number waiting number then codes "undecided" else []

-- ---- records

abbrev pub book_header : List (List ℕ)
book_header = codes "n" ∷ codes "after" ∷ codes "kind" ∷ codes "source" ∷ codes "uid"
    ∷ codes "machine" ∷ codes "slot" ∷ codes "board" ∷ codes "reel" ∷ codes "word" ∷ codes "of"
    ∷ codes "told" ∷ codes "state" ∷ []

-- The columns of the table, and what the entry still asks for.
abbrev pub entry_fields : List ℕ → Written → List (List ℕ)
entry_fields state row = decimal row.number ∷ decimal row.after ∷ row.kind ∷ row.source ∷ row.uid
    ∷ row.machine ∷ row.slot ∷ row.board ∷ row.reel ∷ row.word ∷ decimal row.of ∷ row.told
    ∷ state ∷ []

abbrev pub fields_with : (open_notes waiting : List Note) → Written → List (List ℕ)
fields_with open_notes waiting row = entry_fields (standing open_notes waiting row.number) row

-- ---- texts

-- Whether the row is asked for.
abbrev pub is_wanted : List Note → Wanted → Written → Bool
is_wanted waiting (After number) row = nat_lt number row.number
is_wanted waiting Undecided row = has_number waiting row.number

-- The rows that are asked for, with these open and undecided entries.
abbrev pub text_with : (open_notes waiting : List Note) → Wanted → List Written → List ℕ
text_with open_notes waiting wanted rows =
    csv_text book_header
    (map (fields_with open_notes waiting) (filter (is_wanted waiting wanted) rows))

-- The rows that are asked for, by the two lists.
abbrev pub book_text : History → Book → Wanted → List Written → List ℕ
book_text H B wanted rows = text_with (filter (is_open H B) B) (undecided B) wanted rows
