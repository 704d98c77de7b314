-- Reels and lots that are held.
use Rattle.std.specs.Prelude.{ℕ, Bool, false, Option, Some, None, [], ◌∷◌, if◌then◌else◌}
use Rattle.desk_types.specs.Id.{same}
use Rattle.line_book.specs.declared.note.Matter.{Matter}
use Rattle.line_book.specs.declared.note.Matter.TheVariants.{Hold, Release}
use Rattle.line_book.specs.declared.note.Stock.{Stock}
use Rattle.line_book.specs.declared.note.Stock.TheVariants.{Reel, Lot}
use Rattle.line_book.specs.Book.{Book}

-- Whether both are the same reel or the same lot.
abbrev pub same_stock : Stock → Stock → Bool
same_stock (Reel a) (Reel b) = same a b
same_stock (Lot a) (Lot b) = same a b
same_stock _ _ = false

-- The number of the hold in force after the entry, if `held` was in force before it.
abbrev pub held_after : Stock → ℕ → Matter → Option ℕ → Option ℕ
held_after stock number (Hold s) held = if same_stock s stock then Some number else held
held_after stock number (Release s) held = if same_stock s stock then None else held
held_after stock number _ held = held

-- The number of the hold in force after these entries.
abbrev pub held_from : Stock → Option ℕ → Book → Option ℕ
held_from stock held [] = held
held_from stock held (n ∷ ns) = held_from stock (held_after stock n.number n.matter held) ns

-- The number of the last hold of the reel or the lot, unless it was released since. A decision
-- releases nothing.
abbrev pub hold_on : Book → Stock → Option ℕ
hold_on B stock = held_from stock None B
