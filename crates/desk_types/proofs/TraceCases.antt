-- Worked cases of traces.
use Rattle.desk_types.proofs.Common.{[], ◌++◌, ◌∷◌, ◌≡◌, after_commands, boards_of, Bool, codes}
use Rattle.desk_types.proofs.Common.{command_refusal, completion_refusal, definition_refusal, exposure_of}
use Rattle.desk_types.proofs.Common.{false, History, install_picks, install_refusal, is_out_at, left_of, List}
use Rattle.desk_types.proofs.Common.{live_on, lots_of, map, mounting_refusal, Name, None, overdue_of}
use Rattle.desk_types.proofs.Common.{part_refusal, placements_of, receipt_refusal, refl, refusal_of}
use Rattle.desk_types.proofs.Common.{replies_to, selection_refusal, sheet_refusal, Some, start_refusal}
use Rattle.desk_types.proofs.Common.{takes_of, tape_of, true, unload_refusal, ℕ}
use Rattle.desk_types.proofs.RowsCommon.{at, B1, B2, base, base_replies, K1, K2, K3, L, L1, L2, M, P, PR, R1}
use Rattle.desk_types.proofs.RowsCommon.{R2, R3, R4, R5, received, received_at, S1, S2, said, sheet_row}
use Rattle.desk_types.specs.declared.answer.Detail.TheVariants.{MinutesLeft, Plain, Reels}
use Rattle.desk_types.specs.declared.answer.Refusal.TheVariants.{Expired}
use Rattle.desk_types.specs.declared.answer.Reply.TheVariants.{Accepted, Refused}
use Rattle.desk_types.specs.declared.command.Command.TheVariants.{MaterialsInstalled, MaterialsLoaded}
use Rattle.desk_types.specs.declared.command.Command.TheVariants.{MaterialsSpliced, MaterialsUnloaded}
use Rattle.desk_types.specs.declared.command.Command.TheVariants.{PartDefined, ProductSelected, SheetDefined}
use Rattle.desk_types.specs.declared.command.Command.TheVariants.{WorkCompleted, WorkStarted}
use Rattle.desk_types.specs.declared.command.Stamped.{Stamped}
use Rattle.desk_types.specs.declared.level.Level.TheVariants.{FiveA}
use Rattle.desk_types.specs.declared.placement.Placement.{Placement}
use Rattle.desk_types.specs.declared.rules.Rules.TheVariants.{Two}

-- A piece of part P, placed from slot 1 of machine M by this entry, at this place in its message.
abbrev piece : ℕ → ℕ → Name → Name → Name → Name → ℕ → Bool → Placement
piece number place board designator reel lot effective overdue = record {
  number = number;
  place = place;
  board = board;
  designator = designator;
  part = P;
  lot = lot;
  reel = reel;
  machine = M;
  slot = S1;
  effective = effective;
  overdue = overdue;
}

-- A piece is placed at the minute when its reel expires.
abbrev late_piece : List Stamped
late_piece = base
    ++ at 0 (received_at FiveA K1 10)
    ∷ at 0 (MaterialsLoaded M S1 K1)
    ∷ at 1439 (WorkStarted M B1)
    ∷ at 1440 (MaterialsInstalled M B1 (R1 ∷ []))
    ∷ []

-- Placing a piece from an expired reel is accepted, but the next board can't start with that reel
-- at the front.
pub a_piece_past_floor_life_is_placed : replies_to Two [] (late_piece ++ at 1440 (WorkCompleted M B1) ∷ at 1440 (WorkStarted M B2) ∷ []) ≡
    base_replies ++ Accepted Plain ∷ Accepted (MinutesLeft (Some 1440)) ∷ Accepted Plain ∷ Accepted (Reels (K1 ∷ [])) ∷ Accepted Plain
    ∷ Refused (Expired S1) ∷ []
unfolding refusal_of command_refusal part_refusal definition_refusal sheet_refusal selection_refusal receipt_refusal mounting_refusal tape_of left_of live_on is_out_at exposure_of start_refusal install_refusal install_picks completion_refusal
a_piece_past_floor_life_is_placed = refl

abbrev after_late_piece : History
after_late_piece = after_commands Two [] late_piece

-- The piece is the only placement and is overdue. The board traces to its lot.
pub a_piece_past_floor_life_is_overdue :
    (placements_of after_late_piece ≡ piece 8 1 B1 R1 K1 L1 1440 true ∷ [])
    × (overdue_of after_late_piece ≡ piece 8 1 B1 R1 K1 L1 1440 true ∷ [])
    × (lots_of after_late_piece B1 ≡ L1 ∷ [])
unfolding refusal_of command_refusal part_refusal definition_refusal sheet_refusal selection_refusal receipt_refusal mounting_refusal tape_of left_of live_on is_out_at exposure_of start_refusal install_refusal install_picks takes_of
a_piece_past_floor_life_is_overdue = (refl, refl, refl)

-- Two boards take pieces from two spliced reels of lot L. A reel of lot L2 is received but not
-- used.
abbrev boards_of_one_lot : List Stamped
boards_of_one_lot = base ++ said (
    received K1 P L 5
    ∷ received K2 P L 5
    ∷ received K3 P L2 5
    ∷ MaterialsLoaded M S1 K1
    ∷ MaterialsSpliced M S1 K2
    ∷ WorkStarted M B1
    ∷ MaterialsInstalled M B1 (R1 ∷ R2 ∷ R3 ∷ R4 ∷ R5 ∷ [])
    ∷ WorkCompleted M B1
    ∷ WorkStarted M B2
    ∷ MaterialsInstalled M B2 (R1 ∷ [])
    ∷ [])

abbrev after_two_boards : History
after_two_boards = after_commands Two [] boards_of_one_lot

-- The first board takes the whole first reel, and the second board takes its piece from the second.
pub a_tape_goes_on_with_the_next_board : replies_to Two [] boards_of_one_lot ≡
    base_replies ++ Accepted Plain ∷ Accepted Plain ∷ Accepted Plain ∷ Accepted (MinutesLeft None) ∷ Accepted (MinutesLeft None)
    ∷ Accepted Plain ∷ Accepted (Reels (K1 ∷ K1 ∷ K1 ∷ K1 ∷ K1 ∷ [])) ∷ Accepted Plain ∷ Accepted Plain ∷ Accepted (Reels (K2 ∷ [])) ∷ []
unfolding refusal_of command_refusal part_refusal definition_refusal sheet_refusal selection_refusal receipt_refusal mounting_refusal tape_of left_of live_on start_refusal completion_refusal install_refusal install_picks
a_tape_goes_on_with_the_next_board = refl

-- The placed pieces of both boards.
abbrev pieces_of_both : List Placement
pieces_of_both =
    piece 11 1 B1 R1 K1 L 0 false
    ∷ piece 11 2 B1 R2 K1 L 0 false
    ∷ piece 11 3 B1 R3 K1 L 0 false
    ∷ piece 11 4 B1 R4 K1 L 0 false
    ∷ piece 11 5 B1 R5 K1 L 0 false
    ∷ piece 14 1 B2 R1 K2 L 0 false
    ∷ []

pub placements_of_two_boards : (placements_of after_two_boards ≡ pieces_of_both) × (overdue_of after_two_boards ≡ [])
unfolding refusal_of command_refusal part_refusal definition_refusal sheet_refusal selection_refusal receipt_refusal mounting_refusal tape_of left_of live_on start_refusal completion_refusal install_refusal install_picks takes_of
placements_of_two_boards = (refl, refl)

-- The lot traces to both boards, and each board to the lot. An unused lot traces to no board.
pub a_lot_leads_to_its_boards_and_they_lead_back :
    (boards_of after_two_boards L ≡ B1 ∷ B2 ∷ [])
    × (lots_of after_two_boards B1 ≡ L ∷ [])
    × (lots_of after_two_boards B2 ≡ L ∷ [])
    × (boards_of after_two_boards L2 ≡ [])
unfolding refusal_of command_refusal part_refusal definition_refusal sheet_refusal selection_refusal receipt_refusal mounting_refusal tape_of left_of live_on start_refusal completion_refusal install_refusal install_picks takes_of
a_lot_leads_to_its_boards_and_they_lead_back = (refl, refl, refl, refl)

-- A board uses the first reel of slot 1. Then both slots are unloaded, and the second reel moves
-- from slot 1 to slot 2.
abbrev reel_moved : List Stamped
reel_moved = said (
    PartDefined P
    ∷ SheetDefined PR M (sheet_row S1 P (R1 ∷ []) ∷ sheet_row S2 P (codes "C1" ∷ []) ∷ [])
    ∷ ProductSelected M PR
    ∷ received K1 P L1 10
    ∷ received K2 P L1 20
    ∷ received K3 P L1 5
    ∷ MaterialsLoaded M S1 K1
    ∷ MaterialsSpliced M S1 K2
    ∷ MaterialsLoaded M S2 K3
    ∷ WorkStarted M B1
    ∷ MaterialsInstalled M B1 (R1 ∷ [])
    ∷ WorkCompleted M B1
    ∷ MaterialsUnloaded M S1
    ∷ MaterialsUnloaded M S2
    ∷ MaterialsLoaded M S2 K2
    ∷ [])

abbrev after_the_move : History
after_the_move = after_commands Two [] reel_moved

pub a_reel_moves_to_another_slot : replies_to Two [] reel_moved ≡
    Accepted Plain ∷ Accepted Plain ∷ Accepted Plain ∷ Accepted Plain ∷ Accepted Plain ∷ Accepted Plain
    ∷ Accepted (MinutesLeft None) ∷ Accepted (MinutesLeft None) ∷ Accepted (MinutesLeft None) ∷ Accepted Plain ∷ Accepted (Reels (K1 ∷ []))
    ∷ Accepted Plain ∷ Accepted Plain ∷ Accepted Plain ∷ Accepted (MinutesLeft None) ∷ []
unfolding refusal_of command_refusal part_refusal definition_refusal sheet_refusal selection_refusal receipt_refusal mounting_refusal tape_of left_of live_on start_refusal completion_refusal install_refusal install_picks unload_refusal
a_reel_moves_to_another_slot = refl

-- The moved reel is live on its new slot. The first reel has lost one piece.
pub a_moved_reel_is_live_on_its_new_slot :
    (live_on after_the_move M S1 ≡ [])
    × (live_on after_the_move M S2 ≡ K2 ∷ [])
    × (map (left_of after_the_move) (K1 ∷ K2 ∷ K3 ∷ []) ≡ 9 ∷ 20 ∷ 5 ∷ [])
unfolding refusal_of command_refusal part_refusal definition_refusal sheet_refusal selection_refusal receipt_refusal mounting_refusal tape_of left_of live_on start_refusal completion_refusal install_refusal install_picks unload_refusal
a_moved_reel_is_live_on_its_new_slot = (refl, refl, refl)

pub a_placement_keeps_its_reel_and_slot : placements_of after_the_move ≡ piece 11 1 B1 R1 K1 L1 0 false ∷ []
unfolding refusal_of command_refusal part_refusal definition_refusal sheet_refusal selection_refusal receipt_refusal mounting_refusal tape_of left_of live_on start_refusal completion_refusal install_refusal install_picks unload_refusal takes_of
a_placement_keeps_its_reel_and_slot = refl
