-- A line's chain of desk files. At each roll-over a desk is closed, and a new one is begun with the reels that have pieces left. The
-- pieces of a reel, and the boards of a lot, over all files of the chain.
use Rattle.std.specs.Prelude.{◌≡◌, ℕ, ◌+◌, ⊤, true, Option, None, is_some, List, [], ◌∷◌, ◌++◌, map, if◌then◌else◌}
use Rattle.std.specs.Option.{option_map_or}
use Rattle.std.specs.List.{filter, sum_by}
use Rattle.desk_types.specs.declared.command.Receipt.{Receipt}
use Rattle.desk_types.specs.declared.placement.Placement.{Placement}
use Rattle.desk_types.specs.declared.rules.Rules.{Rules}
use Rattle.desk_types.specs.Id.{Name, same}
use Rattle.desk_types.specs.History.{History, IsPrefix}
use Rattle.desk_types.specs.Setup.{receipt_of}
use Rattle.desk_types.specs.Pieces.{left_of, found_of, placed_of, scrapped_of}
use Rattle.desk_types.specs.Placements.{placements_of, set_of}
use Rattle.desk_types.specs.Judged.{IsJudged}
use Rattle.desk_laws.specs.Alike.{AreAlike}

-- ---- chains

-- A desk file: its rules, the history with which its desk was begun, and its whole history.
pub record DeskFile : Type 0 where
  pub rules : Rules
  pub begun : History
  pub whole : History

-- The pieces of the reel's receipt, or 0 if it wasn't received.
abbrev pub quantity_of : History → Name → ℕ
quantity_of H reel = option_map_or (λ (r : Receipt). r.quantity) (receipt_of H reel) 0

-- The desk with history H' was begun as the one with history H ended. Each carried reel was received with the pieces that were left.
pub record Carries (H H' : History) : Type 0 where
  pub alike : AreAlike H H'
  pub quantities : (reel : Name) → is_some (receipt_of H' reel) ≡ true
      → quantity_of H' reel ≡ left_of H reel

-- The file follows the older ones, newest first. The desk of the first file was begun empty.
abbrev pub Follows : DeskFile → List DeskFile → Type 0
Follows file [] = file.begun ≡ []
Follows file (before ∷ older) = Carries before.whole file.begun

-- The files of a line, newest first as the entries of a history.
abbrev pub IsChain : List DeskFile → Type 0
IsChain [] = ⊤
IsChain (file ∷ older) = IsJudged file.rules file.whole × IsPrefix file.begun file.whole
    × Follows file older × IsChain older

-- ---- the pieces of a reel

-- The pieces that are new to the line: those of the reel's receipt in the file, unless the reel was carried over.
abbrev pub new_in : DeskFile → Name → ℕ
new_in file reel = if is_some (receipt_of file.begun reel) then 0 else quantity_of file.whole reel

-- The received pieces: the new ones of all files, and those that counts found.
abbrev pub received_over : List DeskFile → Name → ℕ
received_over files reel = sum_by (λ (f : DeskFile). new_in f reel + found_of f.whole reel) files

-- The pieces placed on boards.
abbrev pub placed_over : List DeskFile → Name → ℕ
placed_over files reel = sum_by (λ (f : DeskFile). placed_of f.whole reel) files

-- The pieces scrapped, or missing at a count.
abbrev pub scrapped_over : List DeskFile → Name → ℕ
scrapped_over files reel = sum_by (λ (f : DeskFile). scrapped_of f.whole reel) files

-- The pieces left in the newest file.
abbrev pub left_over : List DeskFile → Name → ℕ
left_over [] reel = 0
left_over (file ∷ older) reel = left_of file.whole reel

-- ---- lots and boards

-- The receipt with which the newest file's reel came to the line: its own, or that of the file from which it was carried over. None if
-- the newest file doesn't know the reel.
abbrev pub receipt_over : List DeskFile → Name → Option Receipt
receipt_over [] reel = None
receipt_over (file ∷ older) reel = if is_some (receipt_of file.begun reel)
    then receipt_over older reel else receipt_of file.whole reel

-- The part and the lot of a receipt, which a placement keeps.
abbrev pub origin : Receipt → Name × Name
origin r = (r.part, r.lot)

-- The lot with which the newest file's reel came to the line.
abbrev pub lot_over : List DeskFile → Name → Name
lot_over files reel = option_map_or (λ (r : Receipt). r.lot) (receipt_over files reel) []

-- The board and the lot of each placed piece. Its lot is the one with which its reel came to the line.
abbrev pub pieces_over : List DeskFile → List (Name × Name)
pieces_over [] = []
pieces_over (file ∷ older) = map (λ (p : Placement). (p.board, lot_over (file ∷ older) p.reel))
    (placements_of file.whole) ++ pieces_over older

-- The lots with a piece on the board.
abbrev pub lots_over : List DeskFile → Name → List Name
lots_over files board =
    set_of (map (λ (b, l). l) (filter (λ (b, l). same b board) (pieces_over files)))

-- The boards with a piece from the lot.
abbrev pub boards_over : List DeskFile → Name → List Name
boards_over files lot =
    set_of (map (λ (b, l). b) (filter (λ (b, l). same l lot) (pieces_over files)))
