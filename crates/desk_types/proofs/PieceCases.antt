-- Worked cases of tapes, pieces and counts.
use Rattle.desk_types.proofs.Common.{[], ◌++◌, ◌∷◌, ◌≡◌, after_commands, all_picks, command_refusal}
use Rattle.desk_types.proofs.Common.{definition_refusal, found_of, History, install_picks, install_refusal}
use Rattle.desk_types.proofs.Common.{left_of, List, live_on, map, mounting_refusal, None, part_refusal}
use Rattle.desk_types.proofs.Common.{placed_of, receipt_refusal, received_of, refl, refusal_of, replies_to}
use Rattle.desk_types.proofs.Common.{scrap_refusal, scrapped_of, selection_refusal, sheet_refusal}
use Rattle.desk_types.proofs.Common.{start_refusal, tape_of, unload_refusal, ℕ}
use Rattle.desk_types.proofs.RowsCommon.{B1, base, base_replies, counted, K1, K2, K3, K4, L1, M, P, R1, R2}
use Rattle.desk_types.proofs.RowsCommon.{R3, R4, R5, received, S1, said}
use Rattle.desk_types.specs.declared.answer.Detail.TheVariants.{MinutesLeft, Plain, Reels, Taken}
use Rattle.desk_types.specs.declared.answer.Refusal.TheVariants.{AlreadyPlaced, CountAbove, ReelMounted}
use Rattle.desk_types.specs.declared.answer.Refusal.TheVariants.{SlotEmpty, SlotTaken}
use Rattle.desk_types.specs.declared.answer.Reply.{Reply}
use Rattle.desk_types.specs.declared.answer.Reply.TheVariants.{Accepted, Refused}
use Rattle.desk_types.specs.declared.command.Command.TheVariants.{CountsTaken, MaterialsInstalled}
use Rattle.desk_types.specs.declared.command.Command.TheVariants.{MaterialsLoaded, MaterialsScrapped}
use Rattle.desk_types.specs.declared.command.Command.TheVariants.{MaterialsSpliced, MaterialsUnloaded}
use Rattle.desk_types.specs.declared.command.Command.TheVariants.{WorkStarted}
use Rattle.desk_types.specs.declared.command.Stamped.{Stamped}
use Rattle.desk_types.specs.declared.count.CountRow.{CountRow}
use Rattle.desk_types.specs.declared.rules.Rules.TheVariants.{Two}

-- A reel of fifty pieces is spliced to one of two pieces, and a board takes five.
abbrev spliced_board : List Stamped
spliced_board = base ++ said (
    received K1 P L1 2
    ∷ received K2 P L1 50
    ∷ MaterialsLoaded M S1 K1
    ∷ MaterialsSpliced M S1 K2
    ∷ WorkStarted M B1
    ∷ MaterialsInstalled M B1 (R1 ∷ R2 ∷ R3 ∷ R4 ∷ R5 ∷ [])
    ∷ [])

abbrev spliced_board_replies : List Reply
spliced_board_replies = base_replies ++ Accepted Plain ∷ Accepted Plain ∷ Accepted (MinutesLeft None) ∷ Accepted (MinutesLeft None) ∷ Accepted Plain
    ∷ Accepted (Reels (K1 ∷ K1 ∷ K2 ∷ K2 ∷ K2 ∷ [])) ∷ []

pub a_splice_in_mid_board : replies_to Two [] spliced_board ≡ spliced_board_replies
unfolding refusal_of command_refusal part_refusal definition_refusal sheet_refusal selection_refusal receipt_refusal mounting_refusal tape_of left_of live_on start_refusal install_refusal install_picks
a_splice_in_mid_board = refl

abbrev after_splice : History
after_splice = after_commands Two [] spliced_board

-- Both pieces of the first reel were placed; the second had three placed and has 47 left.
pub pieces_balance_after_a_splice :
    (map (received_of after_splice) (K1 ∷ K2 ∷ []) ≡ 2 ∷ 50 ∷ [])
    × (map (placed_of after_splice) (K1 ∷ K2 ∷ []) ≡ 2 ∷ 3 ∷ [])
    × (map (scrapped_of after_splice) (K1 ∷ K2 ∷ []) ≡ 0 ∷ 0 ∷ [])
    × (map (left_of after_splice) (K1 ∷ K2 ∷ []) ≡ 0 ∷ 47 ∷ [])
unfolding refusal_of command_refusal part_refusal definition_refusal sheet_refusal selection_refusal receipt_refusal mounting_refusal tape_of left_of live_on start_refusal install_refusal install_picks all_picks found_of
pieces_balance_after_a_splice = (refl, refl, refl, refl)

pub a_tape_keeps_a_spent_reel : (tape_of after_splice M S1 ≡ K1 ∷ K2 ∷ []) × (live_on after_splice M S1 ≡ K2 ∷ [])
unfolding refusal_of command_refusal part_refusal definition_refusal sheet_refusal selection_refusal receipt_refusal mounting_refusal tape_of left_of live_on start_refusal install_refusal install_picks
a_tape_keeps_a_spent_reel = (refl, refl)

-- A count can confirm that a spent reel has no pieces, but can't add any. A mounted reel can't be
-- counted.
pub a_spent_reel_stays_spent : replies_to Two [] (spliced_board ++ said (
    CountsTaken (counted K1 1 ∷ [])
    ∷ CountsTaken (counted K1 0 ∷ [])
    ∷ CountsTaken (counted K2 40 ∷ [])
    ∷ [])) ≡
    spliced_board_replies ++ Refused (CountAbove K1) ∷ Accepted (Taken 0) ∷ Refused (ReelMounted K2) ∷ []
unfolding refusal_of command_refusal part_refusal definition_refusal sheet_refusal selection_refusal receipt_refusal mounting_refusal tape_of left_of live_on start_refusal install_refusal install_picks
a_spent_reel_stays_spent = refl

-- After all its pieces are scrapped, a slot can't be unloaded. A placed designator stays placed.
pub a_scrap_of_all_empties_the_slot : replies_to Two [] (spliced_board ++ said (
    MaterialsScrapped M S1 47
    ∷ MaterialsUnloaded M S1
    ∷ MaterialsInstalled M B1 (R1 ∷ [])
    ∷ [])) ≡
    spliced_board_replies ++ Accepted (Taken 47) ∷ Refused (SlotEmpty S1) ∷ Refused (AlreadyPlaced R1) ∷ []
unfolding refusal_of command_refusal part_refusal definition_refusal sheet_refusal selection_refusal receipt_refusal mounting_refusal tape_of left_of live_on start_refusal install_refusal install_picks scrap_refusal unload_refusal
a_scrap_of_all_empties_the_slot = refl

abbrev after_scrap : History
after_scrap = after_commands Two [] (spliced_board ++ said (MaterialsScrapped M S1 47 ∷ []))

-- The second reel's 47 pieces count as scrapped, and the slot has no live reel.
pub a_scrap_of_all_leaves_no_live_reel :
    (map (scrapped_of after_scrap) (K1 ∷ K2 ∷ []) ≡ 0 ∷ 47 ∷ []) × (live_on after_scrap M S1 ≡ [])
unfolding refusal_of command_refusal part_refusal definition_refusal sheet_refusal selection_refusal receipt_refusal mounting_refusal tape_of left_of live_on start_refusal install_refusal install_picks all_picks scrap_refusal
a_scrap_of_all_leaves_no_live_reel = (refl, refl)

-- Three reels of ten pieces, with the first on a slot.
abbrev three_reels : List Stamped
three_reels = base ++ said (
    received K1 P L1 10
    ∷ received K3 P L1 10
    ∷ received K4 P L1 10
    ∷ MaterialsLoaded M S1 K1
    ∷ [])

-- A count of five pieces on each of the other two.
abbrev count_of_two : List CountRow
count_of_two = counted K3 5 ∷ counted K4 5 ∷ []

-- The remaining pieces of the three reels after a count.
abbrev left_after_count : List CountRow → List ℕ
left_after_count counts = map (left_of (after_commands Two [] (three_reels ++ said (CountsTaken counts ∷ [])))) (K1 ∷ K3 ∷ K4 ∷ [])

-- A row for the mounted reel makes the count fail. Without that row the count takes ten pieces.
pub a_count_is_taken_whole_or_not_at_all : replies_to Two [] (three_reels ++ said (
    CountsTaken (count_of_two ++ counted K1 5 ∷ [])
    ∷ CountsTaken count_of_two
    ∷ [])) ≡
    base_replies ++ Accepted Plain ∷ Accepted Plain ∷ Accepted Plain ∷ Accepted (MinutesLeft None) ∷ Refused (ReelMounted K1)
    ∷ Accepted (Taken 10) ∷ []
unfolding refusal_of command_refusal part_refusal definition_refusal sheet_refusal selection_refusal receipt_refusal mounting_refusal tape_of left_of live_on
a_count_is_taken_whole_or_not_at_all = refl

-- The refused count takes nothing; the accepted one takes five pieces from each reel.
pub a_refused_count_takes_nothing :
    (left_after_count (count_of_two ++ counted K1 5 ∷ []) ≡ 10 ∷ 10 ∷ 10 ∷ []) × (left_after_count count_of_two ≡ 10 ∷ 5 ∷ 5 ∷ [])
unfolding refusal_of command_refusal part_refusal definition_refusal sheet_refusal selection_refusal receipt_refusal mounting_refusal tape_of left_of live_on
a_refused_count_takes_nothing = (refl, refl)

pub a_load_is_accepted_again_after_an_unload : replies_to Two [] (base ++ said (
    received K1 P L1 100
    ∷ MaterialsLoaded M S1 K1
    ∷ MaterialsLoaded M S1 K1
    ∷ MaterialsUnloaded M S1
    ∷ MaterialsLoaded M S1 K1
    ∷ [])) ≡
    base_replies ++ Accepted Plain ∷ Accepted (MinutesLeft None) ∷ Refused (SlotTaken S1) ∷ Accepted Plain ∷ Accepted (MinutesLeft None) ∷ []
unfolding refusal_of command_refusal part_refusal definition_refusal sheet_refusal selection_refusal receipt_refusal mounting_refusal tape_of left_of live_on unload_refusal
a_load_is_accepted_again_after_an_unload = refl
