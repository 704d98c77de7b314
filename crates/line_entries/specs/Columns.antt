-- The columns of an entry.
use Rattle.std.specs.Prelude.{ℕ, Option, Some, None}
use Rattle.desk_types.specs.Id.{Name}
use Rattle.line_book.specs.declared.kind.Kind.{Kind}
use Rattle.line_book.specs.declared.kind.Kind.TheVariants as kind
use Rattle.line_book.specs.declared.note.Matter.{Matter}
use Rattle.line_book.specs.declared.note.Matter.TheVariants.{Handling, Stray, Work, Unread, Differs, Boundary, Uncompared, Attribute, Decision, Hold, Release, Made, Begun, Restored}
use Rattle.line_book.specs.declared.note.Stock.{Stock}
use Rattle.line_book.specs.declared.note.Stock.TheVariants.{Reel, Lot}
use Rattle.line_entries.specs.declared.columns.Columns.{Columns}

abbrev pub kind_of : Matter → Kind
kind_of (Handling machine slot reel word) = kind.Handling
kind_of (Stray machine slot reel word) = kind.Stray
kind_of (Work machine slot board word) = kind.Work
kind_of (Unread word) = kind.Unread
kind_of (Differs machine slot board reel desk_reel) = kind.Differs
kind_of (Boundary machine slot board reel desk_reel) = kind.Boundary
kind_of (Uncompared machine board) = kind.Uncompared
kind_of (Attribute reel name) = kind.Attribute
kind_of (Decision about) = kind.Decision
kind_of (Hold stock) = kind.Hold
kind_of (Release stock) = kind.Release
kind_of Made = kind.Made
kind_of Begun = kind.Begun
kind_of Restored = kind.Restored

abbrev pub columns_with : (machine slot board reel word : Option Name) → Columns
columns_with machine slot board reel word =
    record { machine = machine; slot = slot; board = board; reel = reel; word = word }

-- A reel has its column, and `word` has a lot.
abbrev pub stock_columns : Stock → Columns
stock_columns (Reel reel) = columns_with None None None (Some reel) None
stock_columns (Lot lot) = columns_with None None None None (Some lot)

-- The names of the entry, each in its column. `word` has the refusal, the fault, the desk's reel or
-- the attribute's name.
abbrev pub columns_of : Matter → Columns
columns_of (Handling machine slot reel word) =
    columns_with (Some machine) (Some slot) None reel (Some word)
columns_of (Stray machine slot reel word) =
    columns_with (Some machine) (Some slot) None reel (Some word)
columns_of (Work machine slot board word) = columns_with (Some machine) slot board None (Some word)
columns_of (Unread word) = columns_with None None None None (Some word)
columns_of (Differs machine slot board reel desk_reel) =
    columns_with (Some machine) (Some slot) (Some board) (Some reel) (Some desk_reel)
columns_of (Boundary machine slot board reel desk_reel) =
    columns_with (Some machine) (Some slot) (Some board) (Some reel) (Some desk_reel)
columns_of (Uncompared machine board) = columns_with (Some machine) None (Some board) None None
columns_of (Attribute reel name) = columns_with None None None (Some reel) (Some name)
columns_of (Hold stock) = stock_columns stock
columns_of (Release stock) = stock_columns stock
columns_of _ = columns_with None None None None None

-- The number of the entry that a decision is about, or of the one that the entry carries on.
abbrev pub of_number : ℕ → Matter → ℕ
of_number carries (Decision about) = about
of_number carries _ = carries
