-- Lists in the order of the history.
use Rattle.std.specs.Prelude.{ℕ, nat_le, Bool, true, ◌&&◌, List, [], ◌∷◌}
use Rattle.desk_types.specs.declared.placement.Placement.{Placement}
use Rattle.line_book.specs.declared.note.Note.{Note}
use Rattle.line_book.specs.Book.{Book}

-- Whether the places don't fall, and none is below `from` or above `to`.
abbrev pub rises : {X : Type 0} → (X → ℕ) → (from to : ℕ) → List X → Bool
rises at from to [] = true
rises at from to (x ∷ xs) = (nat_le from (at x) && nat_le (at x) to) && rises at (at x) to xs

-- Whether the entries are placed in order, within so many commands.
abbrev pub notes_rise : ℕ → Book → Bool
notes_rise commands B = rises (λ (n : Note). n.after) 0 commands B

-- Whether the pieces come in the order of their installs, each of so many commands.
abbrev pub pieces_rise : ℕ → List Placement → Bool
pieces_rise commands placed = rises (λ (p : Placement). p.number) 1 commands placed
