-- The rows of accepted commands.
use Rattle.std.specs.Prelude.{ℕ, pos, List, [], ◌∷◌}
use Rattle.sqlite.specs.declared.types.Value.TheVariants.{Int, Text}
use Rattle.sqlite_value.specs.Order.{Row}
use Rattle.desk_types.specs.declared.command.Entry.{Entry}
use Rattle.desk_types.specs.declared.command.Stamped.{Stamped}
use Rattle.desk_types.specs.History.{History}
use Rattle.desk_types.specs.StoredText.{stored_text}
use Rattle.desk_answers.specs.Commands.{first_text}
use Rattle.line_tables.specs.Rows.{Tables}
use Rattle.desk_types.specs.Tables.{tables_of as state_of}

-- The columns of a message: its number, its fields with the command's stored text, its effective minute, and the text
-- of its answer.
abbrev pub columns : ℕ → Stamped → ℕ → List ℕ → Row
columns number s effective answer = Int (pos number) ∷ Text s.uid ∷ Text s.source
    ∷ Int (pos s.minute) ∷ Int (pos effective) ∷ Text (stored_text s.command) ∷ Text answer ∷ []

-- The row of an entry that follows the history G.
abbrev pub entry_row : History → Entry → Row
entry_row G e = columns e.number e.stamped e.effective (first_text G e)

-- The rows of all entries, the newest first.
abbrev pub rows_of : History → List Row
rows_of [] = []
rows_of (e ∷ G) = entry_row G e ∷ rows_of G

-- The tables of a history, with their greatest number.
abbrev pub ledger_tables : ℕ → History → Tables
ledger_tables greatest H = record { greatest = greatest; accepted = rows_of H; state = state_of H }
