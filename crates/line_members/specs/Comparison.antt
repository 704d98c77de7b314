-- The pieces of an install for which the machine names another reel than the desk, and their findings.
use Rattle.std.specs.Prelude.{ℕ, Bool, false, ◌&&◌, ◌||◌, Option, Some, None, option_to_list, List, [], ◌∷◌, ◌++◌, fold, map, if◌then◌else◌}
use Rattle.std.specs.List.{list_any}
use Rattle.desk_types.specs.declared.take.Purpose.{Purpose}
use Rattle.desk_types.specs.declared.take.Purpose.TheVariants.{Placed}
use Rattle.desk_types.specs.declared.take.Take.{Take}
use Rattle.desk_types.specs.Id.{Name, same}
use Rattle.line_book.specs.declared.note.Matter.{Matter}
use Rattle.line_book.specs.declared.note.Matter.TheVariants.{Boundary, Differs}
use Rattle.line_members.specs.declared.comparison.Piece.{Piece}
use Rattle.line_members.specs.declared.finding.Finding.{Finding}

-- ---- pieces

-- The piece that was placed at the slot, if the machine's reel is another than the desk's.
abbrev pub piece_from : Purpose → (desk_reel reel : Name) → Option Piece
piece_from (Placed board designator machine slot) desk_reel reel = if same reel desk_reel then None
    else Some (record {
      designator = designator;
      slot = slot;
      desk_reel = desk_reel;
      reel = reel;
    })
piece_from _ desk_reel reel = None

-- A piece for which the machine names no reel differs from nothing.
abbrev pub piece_of : Take → Option Name → Option Piece
piece_of take None = None
piece_of take (Some reel) = piece_from take.purpose take.reel reel

-- The pieces that differ, in the order of the designators.
abbrev pub pieces : List Take → List (Option Name) → List Piece
pieces [] reels = []
pieces (t ∷ ts) [] = []
pieces (t ∷ ts) (r ∷ rs) = option_to_list (piece_of t r) ++ pieces ts rs

-- ---- groups

-- Whether both are of one slot and differ in the same way.
abbrev pub is_alike : Piece → Piece → Bool
is_alike p q = same p.slot q.slot && (same p.reel q.reel && same p.desk_reel q.desk_reel)

abbrev pub with_first : List Piece → Piece → List Piece
with_first found p = if list_any (is_alike p) found then found else found ++ p ∷ []

-- The first piece of each difference.
abbrev pub firsts : List Piece → List Piece
firsts ps = fold with_first [] ps

-- The text with the word behind it, after a space.
abbrev pub with_word : List ℕ → List ℕ → List ℕ
with_word [] word = word
with_word (b ∷ text) word = (b ∷ text) ++ 0x20 ∷ word

abbrev pub with_alike : Piece → List ℕ → Piece → List ℕ
with_alike p text q = if is_alike p q then with_word text q.designator else text

-- The designators of the pieces like this one, with a space between each two.
abbrev pub designators_like : Piece → List Piece → List ℕ
designators_like p ps = fold (with_alike p) [] ps

-- ---- tapes

-- The reel before, if any, and this one are a and b.
abbrev pub is_pair : Option Name → (reel a b : Name) → Bool
is_pair None reel a b = false
is_pair (Some before) reel a b = same before a && same reel b

-- Whether reel b is right behind reel a, on a tape behind this reel, if any.
abbrev pub is_behind : Option Name → List Name → (a b : Name) → Bool
is_behind before [] a b = false
is_behind before (reel ∷ reels) a b = is_pair before reel a b || is_behind (Some reel) reels a b

-- Whether one of them is right behind the other on the tape.
abbrev pub are_neighbors : List Name → (a b : Name) → Bool
are_neighbors tape a b = is_behind None tape a b || is_behind None tape b a

-- The tape of each machine and slot.
abbrev pub Tapes : Type 0
Tapes = (machine slot : Name) → List Name

-- ---- findings

-- A boundary if the two reels are neighbors on the slot's tape: near a splice either may be right.
abbrev pub matter_of : (machine board : Name) → Tapes → Piece → Matter
matter_of machine board tapes p =
    if are_neighbors (tapes machine p.slot) p.reel p.desk_reel
    then Boundary machine p.slot board p.reel p.desk_reel
    else Differs machine p.slot board p.reel p.desk_reel

-- The finding of this difference, which names the designators of all its pieces.
abbrev pub finding_of : (machine board : Name) → Tapes → List Piece → Piece → Finding
finding_of machine board tapes ps p = record {
  matter = matter_of machine board tapes p;
  told = designators_like p ps;
}

-- A finding for each slot and pair of reels, in the order of their first pieces.
abbrev pub differences : (machine board : Name) → Tapes → List Piece → List Finding
differences machine board tapes ps = map (finding_of machine board tapes ps) (firsts ps)
