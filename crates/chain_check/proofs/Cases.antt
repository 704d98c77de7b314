-- Worked cases: lists of small files that are a chain, that are refused, and faults that no chain shows. Then the answers
-- over a chain.
use Rattle.desk_types.proofs.Common.{[], ◌&&◌, ◌+◌, ◌-◌, ◌∙◌, ◌∷◌, ◌≡◌, ◌≤◌, after_commands, All, all_picks}
use Rattle.desk_types.proofs.Common.{All-cons, All-head, All-nil, AllByRecursion, ap, arith, Bool}
use Rattle.desk_types.proofs.Common.{command_refusal, completion_refusal, exposure_of, false, found_of, History}
use Rattle.desk_types.proofs.Common.{if◌then◌else◌, install_picks, install_refusal, is_out_at, IsCommand}
use Rattle.desk_types.proofs.Common.{IsDesignator, IsId, IsJudged, IsListOf, IsSheetRow, IsStamped, left_of}
use Rattle.desk_types.proofs.Common.{length, List, live_on, map, mounting_refusal, Name, nat_lt, None}
use Rattle.desk_types.proofs.Common.{receipt_refusal, refl, refusal_of, same, scrap_refusal, Some}
use Rattle.desk_types.proofs.Common.{start_refusal, subst, sym, take, takes_of, tape_of, true, unwrap_or, ℕ}
use Rattle.desk_laws.proofs.Common.{AreAlike, at, B1, base, boards_over, Carries, Command, DeskFile, IsChain}
use Rattle.desk_laws.proofs.Common.{K1, K2, L2, lots_over, M, MaterialsInstalled, MaterialsLoaded}
use Rattle.desk_laws.proofs.Common.{MaterialsScrapped, MaterialsSpliced, P, placed_over, R1, R2, received}
use Rattle.desk_laws.proofs.Common.{received_over, ReelExists, S1, scrapped_over, Stamped, Two, WorkCompleted}
use Rattle.desk_laws.proofs.Common.{WorkStarted}
use Rattle.chain_check.specs.Counted.{IsChainBy}
use Rattle.chain_check.specs.Rows.{answer_over, rows_over}
use Rattle.chain_check.specs.declared.question.Question.TheVariants.{Names}
use Rattle.chain_check.specs.declared.question.Subject.TheVariants.{Board, Lot, Reels}
use Rattle.desk_laws.proofs.AfterCommands.{judged-run}
use Rattle.desk_laws.proofs.AlikeCases.{new, old, with}
use Rattle.desk_laws.proofs.ChainCases.{the_files_are_a_chain, the_second_file_is_carried}
use Rattle.desk_laws.proofs.Judgements.{judged-prefix}
use Rattle.desk_laws.specs.Chain.{left_over}
use Rattle.desk_types.proofs.RowsCommon.{B2, L1, R3, R4, R5, said}
use Rattle.std.proofs.lemmas.List.Elements.{All-drop}
use Rattle.csv.specs.Writing.{fields_text, is_blank}
use Rattle.std.specs.List.{filter}
use Rattle.std.specs.Prelude.{codes}

abbrev first_file : DeskFile
first_file = record { rules = Two; begun = []; whole = old }

abbrev second_commands : List Stamped
second_commands =
    at 210 (received K2 P L2 10)
    ∷ at 210 (MaterialsSpliced M S1 K2)
    ∷ at 211 (MaterialsScrapped M S1 46)
    ∷ at 212 (WorkStarted M B2)
    ∷ at 212 (MaterialsInstalled M B2 (R1 ∷ R2 ∷ []))
    ∷ at 213 (WorkCompleted M B2)
    ∷ []

abbrev second_file : DeskFile
second_file = record { rules = Two; begun = new; whole = with new second_commands }

-- Two files, the second begun with as many commands as the desk that carries on the first has.
pub the_files_are_a_chain_by : IsChainBy (length new ∷ 0 ∷ []) (second_file ∷ first_file ∷ [])
the_files_are_a_chain_by = record { chain = the_files_are_a_chain; counts = refl }

-- ---- refused

pub a_file_given_twice_is_refused : IsChain (second_file ∷ second_file ∷ first_file ∷ []) → ⊥
a_file_given_twice_is_refused chain =
    let is : 213 ≡ 200 = ap (λ o. unwrap_or o 0) chain.2.alike.minute in
    omega (arith, is)

pub files_turned_round_are_refused : IsChain (first_file ∷ second_file ∷ []) → ⊥
files_turned_round_are_refused chain =
    let is : 213 ≡ 0 = ap (λ o. unwrap_or o 0) chain.2.alike.minute in
    omega (arith, is)

-- A third file that carries on the second.
pub a_missing_middle_file_is_refused : (third : DeskFile) → Carries second_file.whole third.begun
    → IsChain (third ∷ first_file ∷ []) → ⊥
a_missing_middle_file_is_refused third carries chain =
    let is : 213 ≡ 200 = ap (λ o. unwrap_or o 0) (carries.alike.minute ∙ sym chain.2.alike.minute) in
    omega (arith, is)

-- A copy of the second file, as it was before its last four commands.
abbrev copy : DeskFile
copy = record { rules = Two; begun = new; whole = with new (take 2 second_commands) }

pub an_older_copy_is_refused : (third : DeskFile) → Carries second_file.whole third.begun
    → IsChain (third ∷ copy ∷ first_file ∷ []) → ⊥
an_older_copy_is_refused third carries chain =
    let is : 213 ≡ 210 = ap (λ o. unwrap_or o 0) (carries.alike.minute ∙ sym chain.2.alike.minute) in
    omega (arith, is)

-- ---- not seen

-- A list may begin with any file: only the line's owner knows which was the first.
pub the_oldest_file_can_be_missing : IsChain (record { rules = Two; begun = []; whole = second_file.whole } ∷ [])
the_oldest_file_can_be_missing = (the_files_are_a_chain.0, (second_file.whole, refl), refl, tt)

-- A file in which nothing was done after its begin.
abbrev idle : DeskFile
idle = record { rules = Two; begun = new; whole = new }

alike_itself : AreAlike new new
alike_itself =
    let is = the_second_file_is_carried.alike in
    record {
      minute = refl;
      parts = λ part. refl;
      alternates = λ part alternate. refl;
      sheets = λ product machine. refl;
      selections = λ machine. refl;
      old_idle = is.new_idle;
      new_idle = is.new_idle;
      slots = λ machine slot. refl;
      left = λ reel. refl;
      reels = λ reel some. record { part = refl; lot = refl; moisture = refl; unbaked = refl; out = refl; minutes = λ baked minute le. refl };
      boards_known = λ board started. started;
      reels_known = λ reel known. known;
    }

carries_itself : Carries new new
carries_itself = record { alike = alike_itself; quantities = λ reel is. the_second_file_is_carried.quantities reel is ∙ the_second_file_is_carried.alike.left reel }

pub an_idle_file_can_be_left_out : IsChain (second_file ∷ idle ∷ first_file ∷ [])
    × IsChain (second_file ∷ first_file ∷ [])
an_idle_file_can_be_left_out =
    let chain = the_files_are_a_chain in
    let judged = judged-prefix new second_file.whole chain.1 chain.0 in
    ((chain.0, chain.1, carries_itself, (judged, ([], refl), the_second_file_is_carried, chain.3)), chain)

-- ---- a reel carried twice

-- Three files, the second one idle: the pieces of K1 count once.
pub a_reel_carried_twice_balances :
    let files = second_file ∷ idle ∷ first_file ∷ [] in
    (received_over files K1 ≡ 50) × (placed_over files K1 ≡ 4)
    × (scrapped_over files K1 ≡ 46) × (left_over files K1 ≡ 0)
unfolding left_of all_picks found_of install_picks tape_of
a_reel_carried_twice_balances = (refl, refl, refl, refl)

-- ---- more commands with the names of the files above

-- Accepted commands keep the history lawful.
module _ (H : History) (minute : ℕ) (fits : minute ≤ 1000) where
  in_range : (commands : List Command) → AllByRecursion IsCommand commands → All IsStamped (map (at minute) commands)
  in_range [] all = All-nil IsStamped
  in_range (command ∷ commands) (first, rest) =
      let known = the_files_are_a_chain.0.0.in_range.stamped in
      All-cons IsStamped (at minute command) (map (at minute) commands)
      (record { uid = known.uid; source = known.source; minute = omega (arith, fits); command = first })
      (in_range commands rest)

  judged-more : (commands : List Command) → AllByRecursion IsCommand commands → IsJudged Two H
      → after_commands Two H (map (at minute) commands) ≡ with H (map (at minute) commands)
      → IsJudged Two (with H (map (at minute) commands))
  judged-more commands all judged is =
      subst (IsJudged Two) is (judged-run Two (map (at minute) commands) H (in_range commands all) judged)

of_work : IsId M × IsId B1
of_work = the_files_are_a_chain.3.0.1.1.1.0.in_range.stamped.command

of_slot : IsId M × IsId S1 × IsId K1
of_slot = the_files_are_a_chain.3.0.1.1.1.1.0.in_range.stamped.command

of_designators : IsListOf IsDesignator (R1 ∷ R2 ∷ R3 ∷ R4 ∷ R5 ∷ [])
of_designators =
    let of_sheet = the_files_are_a_chain.3.0.1.1.1.1.1.1.1.1.1.0.in_range.stamped.command.2 in
    (All-head IsSheetRow _ [] of_sheet.each).designators

-- ---- a board in two files

-- Board B1 comes back to the second desk. The 47 pieces left of K1 are scrapped, and two of K2 are placed on the board.
abbrev back : List Command
back =
    MaterialsScrapped M S1 47
    ∷ WorkStarted M B1
    ∷ MaterialsInstalled M B1 (R4 ∷ R5 ∷ [])
    ∷ WorkCompleted M B1
    ∷ []

abbrev after_back : History
after_back = with copy.whole (map (at 212) back)

abbrev one_board : List DeskFile
one_board = record { rules = Two; begun = new; whole = after_back } ∷ first_file ∷ []

back_accepted : after_commands Two copy.whole (map (at 212) back) ≡ after_back
unfolding refusal_of command_refusal scrap_refusal start_refusal completion_refusal install_refusal tape_of left_of live_on is_out_at exposure_of install_picks
back_accepted = refl

last_two : All IsDesignator (R4 ∷ R5 ∷ [])
last_two = All-drop IsDesignator 3 (R1 ∷ R2 ∷ R3 ∷ R4 ∷ R5 ∷ []) of_designators.each

of_back : AllByRecursion IsCommand back
of_back = (
  (of_slot.0, of_slot.1, (omega arith, omega arith)),
  (of_work, ((of_work.0, of_work.1, record { count = (omega arith, omega arith); each = last_two }), (of_work, tt))),
)

pub a_board_can_be_in_two_files : IsChain one_board
a_board_can_be_in_two_files = (
  judged-more copy.whole 212 (omega arith) back of_back the_files_are_a_chain.0.1.1.1.1 back_accepted,
  (take 6 after_back, refl),
  the_second_file_is_carried,
  the_files_are_a_chain.3,
)

-- The board has a lot of each file, and a recall of either lot names it.
pub a_board_has_the_lots_of_both_files : (lots_over one_board B1 ≡ L1 ∷ L2 ∷ [])
    × (boards_over one_board L1 ≡ B1 ∷ []) × (boards_over one_board L2 ≡ B1 ∷ [])
unfolding left_of takes_of install_picks tape_of
a_board_has_the_lots_of_both_files = (refl, refl, refl)

-- The answer has each lot with the path of its file.
pub its_lots_come_with_their_files : (a b : List ℕ)
    → rows_over (Names (Board B1)) (a ∷ b ∷ []) one_board ≡ (L1 ∷ a ∷ []) ∷ (L2 ∷ b ∷ []) ∷ []
unfolding left_of takes_of install_picks tape_of
its_lots_come_with_their_files a b = refl

pub its_lots_as_text :
    answer_over (Names (Board B1)) (codes "2024.desk" ∷ codes "2025.desk" ∷ []) one_board
    ≡ codes "lot,file\nL1,2024.desk\nL2,2025.desk\n"
unfolding left_of takes_of install_picks tape_of fields_text is_blank
its_lots_as_text = refl

-- ---- a reel's name received again

-- While a reel has pieces left, it is carried, and its name is refused.
pub a_carried_name_is_refused : refusal_of Two new (at 210 (received K1 P L2 10)) ≡ Some (ReelExists K1)
unfolding refusal_of command_refusal receipt_refusal
a_carried_name_is_refused = refl

abbrev set_up : History
set_up = with [] base

-- A reel named K1 is received with two pieces of this lot, and both are placed on this board.
abbrev used_up : Name → Name → List Command
used_up lot board =
    received K1 P lot 2
    ∷ MaterialsLoaded M S1 K1
    ∷ WorkStarted M board
    ∷ MaterialsInstalled M board (R1 ∷ R2 ∷ [])
    ∷ WorkCompleted M board
    ∷ []

-- On the first desk the reel is of lot L1. It has no pieces left, so it isn't carried, and the second desk accepts another
-- reel with its name, of lot L2.
abbrev spent : History
spent = with set_up (said (used_up L1 B1))

abbrev named_again : History
named_again = with set_up (said (used_up L2 B2))

abbrev one_name : List DeskFile
one_name =
    record { rules = Two; begun = set_up; whole = named_again }
    ∷ record { rules = Two; begun = []; whole = spent }
    ∷ []

both_accepted : (after_commands Two set_up (said (used_up L1 B1)) ≡ spent)
    × (after_commands Two set_up (said (used_up L2 B2)) ≡ named_again)
unfolding refusal_of command_refusal receipt_refusal mounting_refusal start_refusal completion_refusal install_refusal tape_of left_of live_on is_out_at exposure_of install_picks
both_accepted = (refl, refl)

judged-used : (lot board : Name) → IsId lot → IsId board
    → after_commands Two set_up (said (used_up lot board)) ≡ with set_up (said (used_up lot board))
    → IsJudged Two (with set_up (said (used_up lot board)))
judged-used lot board of_lot of_board =
    let of_receipt = the_files_are_a_chain.0.1.1.1.1.1.0.in_range.stamped.command in
    let of_install = the_files_are_a_chain.0.1.0.in_range.stamped.command in
    let of_start : IsId M × IsId board = (of_slot.0, of_board) in
    let all : AllByRecursion IsCommand (used_up lot board) = (
      (of_slot.2, of_receipt.1, of_lot, refl, (omega arith, omega arith)),
      (of_slot, (of_start, ((of_slot.0, of_board, of_install.2), (of_start, tt)))),
    ) in
    judged-more set_up 0 (omega arith) (used_up lot board) all the_files_are_a_chain.3.0.1.1.1.1.1.1.1.1

none-left : (reel : Name) → left_of spent reel ≡ 0
unfolding left_of install_picks tape_of
none-left reel = by (same K1 reel)
  where
    by : (b : Bool)
        → unwrap_or (if b then Some 2 else None) 0 - 0 - 0 - (0 + (if b then 1 else 0) + (if b then 1 else 0)) - 0 ≡ 0
    by true = refl
    by false = refl

none-live : (machine slot : Name) → live_on spent machine slot ≡ live_on set_up machine slot
unfolding left_of live_on install_picks tape_of
none-live machine slot = by (same M machine && same S1 slot)
  where
    by : (b : Bool) → filter (λ reel. nat_lt 0 (left_of spent reel)) (if b then K1 ∷ [] else []) ≡ []
    by true = refl
    by false = refl

the_set_up_is_carried : Carries spent set_up
unfolding left_of
the_set_up_is_carried =
    let is = the_second_file_is_carried.alike in
    record {
      alike = record {
        minute = refl;
        parts = λ part. refl;
        alternates = λ part alternate. refl;
        sheets = λ product machine. refl;
        selections = λ machine. refl;
        old_idle = is.old_idle;
        new_idle = is.new_idle;
        slots = none-live;
        left = none-left;
        reels = λ reel some. let none = none-left reel in absurd (omega (arith, none, some));
        boards_known = λ board known. let no : false ≡ true = known in cc;
        reels_known = λ reel known. let no : false ≡ true = known in cc;
      };
      quantities = λ reel known. let no : false ≡ true = known in cc;
    }

pub a_name_can_be_received_again : IsChain one_name
a_name_can_be_received_again =
    let of_L1 = the_files_are_a_chain.3.0.1.1.1.1.1.1.1.0.in_range.stamped.command.2 in
    let of_L2 = the_files_are_a_chain.0.1.1.1.1.1.0.in_range.stamped.command.2 in
    let of_B2 = the_files_are_a_chain.0.0.in_range.stamped.command.1 in
    let old_judged = judged-used L1 B1 of_L1 of_work.1 both_accepted.0 in
    let new_judged = judged-used L2 B2 of_L2 of_B2 both_accepted.1 in
    (new_judged, (take 5 named_again, refl), the_set_up_is_carried, (old_judged, (spent, refl), refl, tt))

-- A recall of a lot names its own board alone.
pub the_lots_of_one_name_stay_apart : (boards_over one_name L1 ≡ B1 ∷ []) × (boards_over one_name L2 ≡ B2 ∷ [])
    × (lots_over one_name B1 ≡ L1 ∷ []) × (lots_over one_name B2 ≡ L2 ∷ [])
unfolding left_of takes_of install_picks tape_of
the_lots_of_one_name_stay_apart = (refl, refl, refl, refl)

-- A question about the reel's name covers both reels.
pub one_name_has_the_boards_of_both_reels : (a b : List ℕ)
    → (rows_over (Names (Lot L1 None)) (a ∷ b ∷ []) one_name ≡ (B1 ∷ a ∷ []) ∷ [])
    × (rows_over (Names (Reels (K1 ∷ []))) (a ∷ b ∷ []) one_name ≡ (B1 ∷ a ∷ []) ∷ (B2 ∷ b ∷ []) ∷ [])
unfolding left_of takes_of install_picks tape_of
one_name_has_the_boards_of_both_reels a b = (refl, refl)

-- The pieces of both receipts count.
pub both_receipts_count : (received_over one_name K1 ≡ 4) × (placed_over one_name K1 ≡ 4)
    × (scrapped_over one_name K1 ≡ 0) × (left_over one_name K1 ≡ 0)
unfolding left_of all_picks found_of install_picks tape_of
both_receipts_count = (refl, refl, refl, refl)
