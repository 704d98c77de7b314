-- The counts of both lists.
use Rattle.std.specs.Prelude.{ℕ, List, codes, filter, length}
use Rattle.serde_json.specs.Data.{Data, number, string, object, member, no_members, unsigned}
use Rattle.serde_json.specs.Written.{compact_text}
use Rattle.desk_types.specs.History.{History}
use Rattle.line_book.specs.Book.{Book, is_open}
use Rattle.line_book.specs.Undecided.{undecided}
use Rattle.line_answers.specs.declared.counts.Counts.{Counts}

-- The counts of these lists.
abbrev pub counts_of : History → Book → Counts
counts_of H B = record {
  commands = length H;
  entries = length B;
  open_entries = length (filter (is_open H B) B);
  undecided = length (undecided B);
}

abbrev pub counted : ℕ → Data
counted n = number (unsigned n)

abbrev pub counts_object : Counts → Data
counts_object counts =
    object (member (codes "Answer") (string (codes "Counts"))
    (member (codes "Commands") (counted counts.commands)
    (member (codes "Entries") (counted counts.entries)
    (member (codes "Open") (counted counts.open_entries)
    (member (codes "Undecided") (counted counts.undecided) no_members)))))

unfoldable pub counts_text : Counts → List ℕ
counts_text counts = compact_text (counts_object counts)
