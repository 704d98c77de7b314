-- Faults of a roll-over: for each an old desk and a new one that are not alike. In two of them the new desk knows a name that the old one
-- doesn't. Each but the case of the lot has a command that the two desks answer differently.
use Rattle.desk_types.proofs.Common.{[], ◌++◌, ◌==◌, ◌∷◌, ◌≡◌, after_commands, alternate_refusal, ap, arith}
use Rattle.desk_types.proofs.Common.{Bool, closing_refusal, command_refusal, completion_refusal}
use Rattle.desk_types.proofs.Common.{definition_refusal, exposure_of, false, first, History, install_picks}
use Rattle.desk_types.proofs.Common.{install_refusal, is_out_at, is_some, left_of, List, live_on}
use Rattle.desk_types.proofs.Common.{mounting_refusal, Name, None, opening_refusal, Option, option_and_then}
use Rattle.desk_types.proofs.Common.{option_map_or, part_refusal, receipt_refusal, refl, refusal_of}
use Rattle.desk_types.proofs.Common.{replies_to, same, scrap_refusal, selection_refusal, sheet_refusal, Some}
use Rattle.desk_types.proofs.Common.{start_refusal, tape_of, true, ℕ}
use Rattle.desk_laws.proofs.Common.{Accepted, AlternateAllowed, AreAlike, at, B1, base, ClockSet, Expired, K1}
use Rattle.desk_laws.proofs.Common.{K2, L2, M, MachineBusy, MaterialsInstalled, MaterialsLoaded}
use Rattle.desk_laws.proofs.Common.{MaterialsScrapped, MaterialsSpliced, NotBaked, P, PartDefined}
use Rattle.desk_laws.proofs.Common.{ProductSelected, R1, R2, received, ReelBaked, ReelExists, ReelOpened}
use Rattle.desk_laws.proofs.Common.{Reels, ReelShort, Refused, S1, SheetDefined, SheetRow, SlotEmpty, Stamped}
use Rattle.desk_laws.proofs.Common.{Taken, Two, WorkCompleted, WorkStarted, WrongPart}
use Rattle.desk_types.proofs.RowsCommon.{L1, PR, Q, received_at, received_at_six, S2, said, sheet_row}
use Rattle.desk_types.specs.declared.answer.Detail.TheVariants.{MinutesLeft, Plain}
use Rattle.desk_types.specs.declared.answer.Refusal.TheVariants.{AlreadyPlaced, PartExists}
use Rattle.desk_types.specs.declared.answer.Reply.{Reply}
use Rattle.desk_types.specs.declared.level.Level.TheVariants.{FiveA}

-- The history of a desk that got these commands.
abbrev after : List Stamped → History
after commands = after_commands Two [] commands

-- The answers of a desk that got these commands.
abbrev answers : List Stamped → List Stamped → List Reply
answers commands later = replies_to Two (after commands) later

-- ---- the setup

-- An alternate is missing: a reel of that part can't be loaded.
abbrev with_alternate : List Stamped
with_alternate = base ++ said (AlternateAllowed P Q ∷ [])

abbrev load_alternate : List Stamped
load_alternate = said (received K1 Q L1 10 ∷ MaterialsLoaded M S1 K1 ∷ [])

pub an_alternate_is_missing : (AreAlike (after with_alternate) (after base) → ⊥)
    × (answers with_alternate load_alternate ≡ Accepted Plain ∷ Accepted (MinutesLeft None) ∷ [])
    × (answers base load_alternate ≡ Accepted Plain ∷ Refused (WrongPart K1) ∷ [])
unfolding refusal_of command_refusal part_refusal alternate_refusal definition_refusal sheet_refusal selection_refusal receipt_refusal mounting_refusal tape_of left_of live_on
an_alternate_is_missing = ((λ alike. let is : true ≡ false = alike.alternates P Q in cc), refl, refl)

-- The rows of a sheet are swapped: a start of work looks at the other slot first.
abbrev one_row : Name → Name → SheetRow
one_row slot designator = sheet_row slot P (designator ∷ [])

abbrev with_rows : List SheetRow → List Stamped
with_rows rows = said (PartDefined P ∷ SheetDefined PR M rows ∷ ProductSelected M PR ∷ [])

abbrev rows_in_order : List Stamped
rows_in_order = with_rows (one_row S1 R1 ∷ one_row S2 R2 ∷ [])

abbrev rows_swapped : List Stamped
rows_swapped = with_rows (one_row S2 R2 ∷ one_row S1 R1 ∷ [])

abbrev first_row : List SheetRow → Option SheetRow
first_row [] = None
first_row (row ∷ rows) = Some row

abbrev begins_at : Name → Option (List SheetRow) → Bool
begins_at slot sheet = option_map_or (λ (row : SheetRow). same row.slot slot) (option_and_then first_row sheet) false

pub the_rows_of_a_sheet_are_swapped : (AreAlike (after rows_in_order) (after rows_swapped) → ⊥)
    × (answers rows_in_order (said (WorkStarted M B1 ∷ [])) ≡ Refused (SlotEmpty S1) ∷ [])
    × (answers rows_swapped (said (WorkStarted M B1 ∷ [])) ≡ Refused (SlotEmpty S2) ∷ [])
unfolding refusal_of command_refusal part_refusal definition_refusal sheet_refusal selection_refusal start_refusal tape_of left_of live_on
the_rows_of_a_sheet_are_swapped = ((λ alike. let is : true ≡ false = ap (begins_at S1) (alike.sheets PR M) in cc), refl, refl)

-- A part is defined on the new desk alone.
abbrev with_part : List Stamped
with_part = base ++ said (PartDefined L1 ∷ [])

pub a_part_is_new : (AreAlike (after base) (after with_part) → ⊥)
    × (answers base (said (PartDefined L1 ∷ [])) ≡ Accepted Plain ∷ [])
    × (answers with_part (said (PartDefined L1 ∷ [])) ≡ Refused (PartExists L1) ∷ [])
unfolding refusal_of command_refusal part_refusal definition_refusal sheet_refusal selection_refusal
a_part_is_new = ((λ alike. let is : false ≡ true = alike.parts L1 in cc), refl, refl)

-- ---- the slots

-- A splice came before its load: the other reel is at the front.
abbrev one_on_two : Name → Name → List Stamped
one_on_two front next = base ++ said (
    received K1 P L1 10
    ∷ received K2 P L1 10
    ∷ MaterialsLoaded M S1 front
    ∷ MaterialsSpliced M S1 next
    ∷ [])

abbrev place_a_piece : List Stamped
place_a_piece = said (WorkStarted M B1 ∷ MaterialsInstalled M B1 (R1 ∷ []) ∷ [])

pub a_splice_came_before_its_load : (AreAlike (after (one_on_two K1 K2)) (after (one_on_two K2 K1)) → ⊥)
    × (answers (one_on_two K1 K2) place_a_piece ≡ Accepted Plain ∷ Accepted (Reels (K1 ∷ [])) ∷ [])
    × (answers (one_on_two K2 K1) place_a_piece ≡ Accepted Plain ∷ Accepted (Reels (K2 ∷ [])) ∷ [])
unfolding refusal_of command_refusal part_refusal definition_refusal sheet_refusal selection_refusal receipt_refusal mounting_refusal tape_of left_of live_on start_refusal install_refusal install_picks
a_splice_came_before_its_load =
    ((λ alike. let is : true ≡ false = ap (λ reels. option_map_or (same K1) (first reels) false) (alike.slots M S1) in cc), refl, refl)

-- ---- the reels

-- The reel was opened a minute earlier on the new desk than it should have been.
abbrev opened_at : ℕ → List Stamped
opened_at minute = base ++ at 0 (received_at FiveA K1 10) ∷ at minute (ReelOpened K1) ∷ at 10 ClockSet ∷ []

abbrev load_at : ℕ → List Stamped
load_at minute = at minute (MaterialsLoaded M S1 K1) ∷ []

abbrev is_of : ℕ → Option ℕ → Bool
is_of n left = option_map_or (λ m. m == n) left false

pub a_reel_is_one_minute_more_exposed : (AreAlike (after (opened_at 1)) (after (opened_at 0)) → ⊥)
    × (answers (opened_at 1) (load_at 10) ≡ Accepted (MinutesLeft (Some 1431)) ∷ [])
    × (answers (opened_at 0) (load_at 10) ≡ Accepted (MinutesLeft (Some 1430)) ∷ [])
unfolding refusal_of command_refusal part_refusal definition_refusal sheet_refusal selection_refusal receipt_refusal opening_refusal mounting_refusal tape_of left_of live_on is_out_at exposure_of
a_reel_is_one_minute_more_exposed = ((λ alike. let is : true ≡ false = ap (is_of 1431) ((alike.reels K1 (omega arith)).minutes refl 10 (omega arith)) in cc), refl, refl)

-- An expired reel was carried as usable.
abbrev expired : List Stamped
expired = base ++ at 0 (received_at FiveA K1 10) ∷ at 0 (ReelOpened K1) ∷ at 1440 ClockSet ∷ []

abbrev usable : List Stamped
usable = base ++ at 1440 (received_at FiveA K1 10) ∷ at 1440 (ReelOpened K1) ∷ at 1440 ClockSet ∷ []

pub an_expired_reel_is_usable : (AreAlike (after expired) (after usable) → ⊥)
    × (answers expired (load_at 1440) ≡ Refused (Expired K1) ∷ [])
    × (answers usable (load_at 1440) ≡ Accepted (MinutesLeft (Some 1440)) ∷ [])
unfolding refusal_of command_refusal part_refusal definition_refusal sheet_refusal selection_refusal receipt_refusal opening_refusal mounting_refusal tape_of left_of live_on is_out_at exposure_of
an_expired_reel_is_usable = ((λ alike. let is : true ≡ false = ap (is_of 0) ((alike.reels K1 (omega arith)).minutes refl 1440 (omega arith)) in cc), refl, refl)

-- A reel of level 6 that was baked is carried as one that waits for its bake.
abbrev of_level_six : List Stamped
of_level_six = base ++ said (received_at_six 60 K1 ∷ [])

abbrev baked : List Stamped
baked = of_level_six ++ said (ReelBaked K1 ∷ [])

pub a_bake_is_lost : (AreAlike (after baked) (after of_level_six) → ⊥)
    × (answers baked (load_at 0) ≡ Accepted (MinutesLeft (Some 60)) ∷ [])
    × (answers of_level_six (load_at 0) ≡ Refused (NotBaked K1) ∷ [])
unfolding refusal_of command_refusal part_refusal definition_refusal sheet_refusal selection_refusal receipt_refusal closing_refusal mounting_refusal tape_of left_of live_on is_out_at exposure_of
a_bake_is_lost = ((λ alike. let is : false ≡ true = (alike.reels K1 (omega arith)).unbaked in cc), refl, refl)

-- An open reel is carried as one in its bag: at the desk minute it has as many minutes left, and more from then on.
abbrev in_bag : List Stamped
in_bag = base ++ at 0 (received_at FiveA K1 10) ∷ at 10 ClockSet ∷ []

pub an_open_reel_is_sealed : (AreAlike (after (opened_at 10)) (after in_bag) → ⊥)
    × (answers (opened_at 10) (load_at 20) ≡ Accepted (MinutesLeft (Some 1430)) ∷ [])
    × (answers in_bag (load_at 20) ≡ Accepted (MinutesLeft (Some 1440)) ∷ [])
unfolding refusal_of command_refusal part_refusal definition_refusal sheet_refusal selection_refusal receipt_refusal opening_refusal mounting_refusal tape_of left_of live_on is_out_at exposure_of
an_open_reel_is_sealed = ((λ alike. let is : true ≡ false = (alike.reels K1 (omega arith)).out in cc), refl, refl)

-- A reel has one piece more.
abbrev on_slot : ℕ → List Stamped
on_slot pieces = base ++ said (received K1 P L1 pieces ∷ MaterialsLoaded M S1 K1 ∷ [])

pub a_reel_has_one_piece_more : (AreAlike (after (on_slot 10)) (after (on_slot 11)) → ⊥)
    × (answers (on_slot 10) (said (MaterialsScrapped M S1 11 ∷ [])) ≡ Refused (ReelShort S1) ∷ [])
    × (answers (on_slot 11) (said (MaterialsScrapped M S1 11 ∷ [])) ≡ Accepted (Taken 11) ∷ [])
unfolding refusal_of command_refusal part_refusal definition_refusal sheet_refusal selection_refusal receipt_refusal mounting_refusal tape_of left_of live_on scrap_refusal
a_reel_has_one_piece_more = ((λ alike. let is : true ≡ false = ap (λ n. n == 10) (alike.left K1) in cc), refl, refl)

-- A reel has another lot. Its commands are answered alike, but the traces of its pieces are wrong.
abbrev of_lot : Name → List Stamped
of_lot lot = base ++ said (received K1 P lot 10 ∷ [])

pub a_reel_has_another_lot : AreAlike (after (of_lot L1)) (after (of_lot L2)) → ⊥
unfolding refusal_of command_refusal part_refusal definition_refusal sheet_refusal selection_refusal receipt_refusal left_of
a_reel_has_another_lot alike = let is : true ≡ false = ap (same L1) (alike.reels K1 (omega arith)).lot in cc

-- A reel was received on the new desk alone, and is spent there.
abbrev with_spent : List Stamped
with_spent = on_slot 10 ++ said (MaterialsScrapped M S1 10 ∷ [])

abbrev receive_again : List Stamped
receive_again = said (received K1 P L1 10 ∷ [])

pub a_reel_is_new : (AreAlike (after base) (after with_spent) → ⊥)
    × (answers base receive_again ≡ Accepted Plain ∷ [])
    × (answers with_spent receive_again ≡ Refused (ReelExists K1) ∷ [])
unfolding refusal_of command_refusal part_refusal definition_refusal sheet_refusal selection_refusal receipt_refusal mounting_refusal tape_of left_of live_on scrap_refusal
a_reel_is_new = ((λ alike. let is : false ≡ true = alike.reels_known K1 refl in cc), refl, refl)

-- ---- the work

-- A board has a piece on the new desk alone.
abbrev with_board : List Stamped
with_board = on_slot 11 ++ place_a_piece ++ said (WorkCompleted M B1 ∷ [])

pub a_board_is_new : (AreAlike (after (on_slot 10)) (after with_board) → ⊥)
    × (answers (on_slot 10) place_a_piece ≡ Accepted Plain ∷ Accepted (Reels (K1 ∷ [])) ∷ [])
    × (answers with_board place_a_piece ≡ Accepted Plain ∷ Refused (AlreadyPlaced R1) ∷ [])
unfolding refusal_of command_refusal part_refusal definition_refusal sheet_refusal selection_refusal receipt_refusal mounting_refusal tape_of left_of live_on start_refusal completion_refusal install_refusal install_picks
a_board_is_new = ((λ alike. let is : false ≡ true = alike.boards_known B1 refl in cc), refl, refl)

-- A board is still in work on the old desk.
abbrev in_work : List Stamped
in_work = on_slot 10 ++ said (WorkStarted M B1 ∷ [])

pub a_board_is_in_work : (AreAlike (after in_work) (after (on_slot 10)) → ⊥)
    × (answers in_work (said (ProductSelected M PR ∷ [])) ≡ Refused (MachineBusy M) ∷ [])
    × (answers (on_slot 10) (said (ProductSelected M PR ∷ [])) ≡ Accepted Plain ∷ [])
unfolding refusal_of command_refusal part_refusal definition_refusal sheet_refusal selection_refusal receipt_refusal mounting_refusal tape_of left_of live_on start_refusal
a_board_is_in_work = ((λ alike. let is : true ≡ false = ap is_some (alike.old_idle M) in cc), refl, refl)
