-- The rows of the answer over a chain.
use Rattle.std.specs.Prelude.{ℕ, List, [], ◌∷◌, ◌++◌, ◌&&◌, Bool, Some, None, length, map, get_or, codes, decimal}
use Rattle.std.specs.List.{filter, filter_map, flat_map, list_any}
use Rattle.std.specs.Option.{option_map}
use Rattle.desk_types.specs.declared.command.Receipt.{Receipt}
use Rattle.desk_types.specs.declared.placement.Placement.{Placement}
use Rattle.desk_types.specs.Id.{Name, same}
use Rattle.desk_types.specs.History.{History, desk_minute}
use Rattle.desk_types.specs.Placements.{placements_of, set_of}
use Rattle.desk_types.specs.Setup.{receipt_of}
use Rattle.trace_reports.specs.Sets.{Fields}
use Rattle.trace_reports.specs.Csv.{csv_text, record_text}
use Rattle.trace_reports.specs.Traces.{yes_or_no}
use Rattle.desk_laws.specs.Chain.{DeskFile}
use Rattle.chain_check.specs.declared.question.Question.{Question}
use Rattle.chain_check.specs.declared.question.Question.TheVariants.{Chain, Names, Pieces}
use Rattle.chain_check.specs.declared.question.Subject.{Subject}
use Rattle.chain_check.specs.declared.question.Subject.TheVariants.{Lot, Board, Reels}
use Rattle.chain_check.specs.declared.rows.ChainFile.{ChainFile}
use Rattle.chain_check.specs.Texts.{minute_text}

-- ---- pieces and names

-- Whether the piece is of the lot, and of the part if one is named; or on the board; or of one of the reels.
abbrev pub is_of : Subject → Placement → Bool
is_of (Lot lot None) p = same p.lot lot
is_of (Lot lot (Some part)) p = same p.lot lot && same p.part part
is_of (Board board) p = same p.board board
is_of (Reels reels) p = list_any (same p.reel) reels

-- The lots of those of these reels that were received.
abbrev pub lots_received : List Name → History → List Name
lots_received reels H =
    filter_map (λ reel. option_map (λ (r : Receipt). r.lot) (receipt_of H reel)) reels

-- Each of them once, in byte order.
abbrev pub lots_among : List Name → History → List Name
lots_among reels H = set_of (lots_received reels H)

-- The pieces of these reels, lot by lot; those of a lot by number and then by place.
abbrev pub reels_pieces : List Name → History → List Placement
reels_pieces reels H =
    flat_map (λ lot. filter (is_of (Reels reels)) (filter (is_of (Lot lot None)) (placements_of H)))
    (lots_among reels H)

-- Its pieces in a history: of a lot or on a board by number and then by place.
abbrev pub pieces_of : Subject → History → List Placement
pieces_of (Reels reels) H = reels_pieces reels H
pieces_of subject H = filter (is_of subject) (placements_of H)

-- The lot of a piece on the board, or the board of any other piece.
abbrev pub name_of : Subject → Placement → Name
name_of (Board board) p = p.lot
name_of subject p = p.board

-- These of all pieces, each once, in byte order.
abbrev pub names_of : Subject → List Placement → List Name
names_of subject pieces = set_of (map (name_of subject) pieces)

-- The pieces that the question is about.
abbrev pub asked_of : Question → History → List Placement
asked_of Chain H = []
asked_of (Names subject) H = pieces_of subject H
asked_of (Pieces subject) H = pieces_of subject H

-- ---- rows

-- The row of a file: with how many commands its desk was begun, how many it has, and its last minute.
abbrev pub file_row : List ℕ → ChainFile → Fields
file_row path file =
    path ∷ decimal file.begun ∷ decimal file.commands ∷ minute_text file.minute ∷ []

-- The row of a name.
abbrev pub name_row : List ℕ → Name → Fields
name_row path name = name ∷ path ∷ []

-- The row of a piece, with the effective minute of its install.
abbrev pub piece_row : List ℕ → Placement → Fields
piece_row path p =
    p.board ∷ p.designator ∷ p.part ∷ p.lot ∷ p.reel ∷ p.machine ∷ p.slot ∷ yes_or_no p.overdue
    ∷ decimal p.effective ∷ path ∷ []

-- The rows of the file with this path, from its pieces.
abbrev pub rows_in : Question → List ℕ → ChainFile → List Placement → List Fields
rows_in Chain path file pieces = file_row path file ∷ []
rows_in (Names subject) path file pieces = map (name_row path) (names_of subject pieces)
rows_in (Pieces subject) path file pieces = map (piece_row path) pieces

-- The names of the columns.
abbrev pub names_header : Subject → Fields
names_header (Board board) = codes "lot" ∷ codes "file" ∷ []
names_header subject = codes "board" ∷ codes "file" ∷ []

abbrev pub header_of : Question → Fields
header_of Chain = codes "file" ∷ codes "begun" ∷ codes "commands" ∷ codes "minute" ∷ []
header_of (Names subject) = names_header subject
header_of (Pieces subject) =
    codes "board" ∷ codes "designator" ∷ codes "part" ∷ codes "lot" ∷ codes "reel"
    ∷ codes "machine" ∷ codes "slot" ∷ codes "overdue" ∷ codes "minute" ∷ codes "file" ∷ []

-- ---- the answer

-- The facts of a file's row.
abbrev pub facts_of : DeskFile → ChainFile
facts_of file = record {
  begun = length file.begun;
  commands = length file.whole;
  minute = desk_minute file.whole;
}

-- The rows of each file, the oldest first. Its path is the first one.
abbrev pub rows_over : Question → List (List ℕ) → List DeskFile → List Fields
rows_over question paths [] = []
rows_over question paths (file ∷ older) =
    rows_over question paths older
    ++ rows_in question (get_or paths (length older) []) (facts_of file)
    (asked_of question file.whole)

-- The answer over files with these paths.
abbrev pub answer_over : Question → List (List ℕ) → List DeskFile → List ℕ
answer_over question paths files =
    csv_text (header_of question) (rows_over question paths files)

-- The text of rows, without a header.
abbrev pub rows_text : List Fields → List ℕ
rows_text rows = flat_map record_text rows

-- The first column of a row.
abbrev pub first_field : Fields → List ℕ
first_field row = get_or row 0 []

-- What is asked of each placed piece of all files: its lot if it is on the board, or its board if it is of the lot or of one
-- of the reels.
abbrev pub named_over : Subject → List DeskFile → List Name
named_over subject files = flat_map (λ (f : DeskFile). map (name_of subject)
    (filter (is_of subject) (placements_of f.whole))) files
