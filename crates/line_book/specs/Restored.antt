-- The two lists as they are read again.
use Rattle.std.specs.Prelude.{◌≡◌, ℕ, ◌+◌, ◌<◌, ◌≤◌, ⊤, List, [], ◌∷◌}
use Rattle.desk_types.specs.declared.command.Stamped.{Stamped}
use Rattle.desk_types.specs.History.{History, accept}
use Rattle.line_book.specs.declared.note.Matter.TheVariants.{Decision}
use Rattle.line_book.specs.declared.note.Note.{Note}
use Rattle.line_book.specs.Book.{Book}

-- The history after these commands too were accepted, in order.
abbrev pub history_from : History → List Stamped → History
history_from H [] = H
history_from H (s ∷ ss) = history_from (accept H s) ss

-- The history of these commands.
abbrev pub history_of : List Stamped → History
history_of commands = history_from [] commands

-- The entry follows so many entries, the last of them placed after `after` commands: it has the next
-- number, its place doesn't fall and is within the history, and a decision is about an earlier entry.
pub record Follows (commands : ℕ) (entries after : ℕ) (n : Note) : Type 0 where
  pub number : n.number ≡ entries + 1
  pub rises : after ≤ n.after
  pub within : n.after ≤ commands
  pub earlier : (about : ℕ) → n.matter ≡ Decision about → (0 < about) × (about < n.number)

-- Each entry follows those before it.
abbrev pub Follow : (commands entries after : ℕ) → List Note → Type 0
Follow commands entries after [] = ⊤
Follow commands entries after (n ∷ ns) =
    Follows commands entries after n × Follow commands (entries + 1) n.after ns

-- The entries are a book of so many accepted commands.
abbrev pub IsBook : ℕ → Book → Type 0
IsBook commands B = Follow commands 0 0 B
