-- A chain of two small files, computed by the definitions, and two files that are no chain.
use Rattle.desk_types.proofs.Common.{[], ◌&&◌, ◌++◌, ◌+◌, ◌-◌, ◌==◌, ◌∙◌, ◌∷◌, ◌≡◌, ◌≤◌, accept}
use Rattle.desk_types.proofs.Common.{after_commands, All, All-append, All-cons, All-nil, all_picks}
use Rattle.desk_types.proofs.Common.{AllByRecursion, AllPass-from_list_all, ap, append-nil, append_assoc}
use Rattle.desk_types.proofs.Common.{arith, boards_of, Bool, command_refusal, completion_refusal, drop}
use Rattle.desk_types.proofs.Common.{entry_of, exposure_of, false, found_of, History, if◌then◌else◌}
use Rattle.desk_types.proofs.Common.{install_picks, install_refusal, is_designator_byte, is_out_at, is_some}
use Rattle.desk_types.proofs.Common.{IsCommand, IsDesignator, IsId, IsJudged, IsListOf, IsPrefix, IsSheetRow}
use Rattle.desk_types.proofs.Common.{IsStamped, left_of, length, List, list_all, live_on, mounting_refusal}
use Rattle.desk_types.proofs.Common.{Name, nat_le, nat_lt, nat_tests, None, not, option_or, receipt_of}
use Rattle.desk_types.proofs.Common.{receipt_refusal, refl, refusal_of, same, same-true, scrap_refusal}
use Rattle.desk_types.proofs.Common.{start_refusal, subst, sym, takes_of, tape_of, true, ℕ}
use Rattle.desk_laws.proofs.Common.{at, B1, base, boards_over, Carries, ClockSet, Command, DeskFile, IsChain}
use Rattle.desk_laws.proofs.Common.{K1, K2, L2, lots_over, M, MaterialsInstalled, MaterialsLoaded}
use Rattle.desk_laws.proofs.Common.{MaterialsScrapped, MaterialsSpliced, P, placed_over, quantity_of, R1, R2}
use Rattle.desk_laws.proofs.Common.{received, received_over, S1, scrapped_over, Stamped, Two, WorkCompleted}
use Rattle.desk_laws.proofs.Common.{WorkStarted}
use Rattle.desk_laws.proofs.AfterCommands.{judged-run}
use Rattle.desk_laws.proofs.AlikeCases.{a_carried_desk_is_alike, new, new_begin, new_is_accepted, old}
use Rattle.desk_laws.proofs.AlikeCases.{old_begin, old_end, old_is_accepted, with}
use Rattle.desk_laws.specs.Chain.{left_over}
use Rattle.desk_types.proofs.RowsCommon.{B2, L1, PR, Q, R3, R4, R5}
use Rattle.std.specs.Prelude.{slice_index}

-- The first file: 50 pieces of reel K1, of lot L1, are received, and three of them placed on board B1.
abbrev first_file : DeskFile
first_file = record { rules = Two; begun = []; whole = old }

-- The second file begins with the 47 pieces that were left. Reel K2, of lot L2, is spliced behind K1, 46 pieces are scrapped, and board
-- B2 gets the last piece of K1 and one of K2.
abbrev second_commands : List Stamped
second_commands =
    at 210 (received K2 P L2 10)
    ∷ at 210 (MaterialsSpliced M S1 K2)
    ∷ at 211 (MaterialsScrapped M S1 46)
    ∷ at 212 (WorkStarted M B2)
    ∷ at 212 (MaterialsInstalled M B2 (R1 ∷ R2 ∷ []))
    ∷ at 213 (WorkCompleted M B2)
    ∷ []

abbrev second_file : DeskFile
second_file = record { rules = Two; begun = new; whole = with new second_commands }

abbrev files : List DeskFile
files = second_file ∷ first_file ∷ []

pub all_is_accepted : after_commands Two new second_commands ≡ second_file.whole
unfolding refusal_of command_refusal receipt_refusal mounting_refusal scrap_refusal start_refusal completion_refusal install_refusal tape_of left_of live_on is_out_at exposure_of install_picks
all_is_accepted = refl

-- The carried pieces count once: 50 are received, four placed and 46 scrapped.
pub a_carried_reel_balances : (received_over files K1 ≡ 50) × (placed_over files K1 ≡ 4) × (scrapped_over files K1 ≡ 46) × (left_over files K1 ≡ 0)
unfolding left_of all_picks found_of install_picks tape_of
a_carried_reel_balances = (refl, refl, refl, refl)

pub a_later_reel_balances : (received_over files K2 ≡ 10) × (placed_over files K2 ≡ 1) × (scrapped_over files K2 ≡ 0) × (left_over files K2 ≡ 9)
unfolding left_of all_picks found_of install_picks tape_of
a_later_reel_balances = (refl, refl, refl, refl)

-- Lot L1 is on boards of both files, and board B2 has both lots.
pub a_recall_names_boards_of_both_files : (boards_over files L1 ≡ B1 ∷ B2 ∷ []) × (boards_over files L2 ≡ B2 ∷ []) × (lots_over files B2 ≡ L1 ∷ L2 ∷ [])
    × (boards_of first_file.whole L1 ≡ B1 ∷ []) × (boards_of second_file.whole L1 ≡ B2 ∷ [])
unfolding left_of takes_of install_picks tape_of
a_recall_names_boards_of_both_files = (refl, refl, refl, refl, refl)

carried : (reel : Name) (b : Bool) → same K1 reel ≡ b → is_some (receipt_of new reel) ≡ true → quantity_of new reel ≡ left_of old reel
unfolding left_of install_picks tape_of
carried reel true is known = subst (λ r. quantity_of new r ≡ left_of old r) (same-true K1 reel is) refl
carried reel false is known =
    let none = ap (λ b. is_some (option_or (if b then receipt_of new K1 else None) None)) is in
    let no = sym known ∙ none in
    cc

pub the_second_file_is_carried : Carries old new
the_second_file_is_carried = record { alike = a_carried_desk_is_alike; quantities = λ reel is. carried reel (same K1 reel) refl is }

-- A copy of the old file is alike to it, but receives 50 pieces in place of 47: it would count the three placed ones twice.
abbrev copied : List DeskFile
copied = record { rules = Two; begun = old; whole = old } ∷ first_file ∷ []

pub a_copy_counts_pieces_twice : (Carries old old → ⊥) × (received_over copied K1 ≡ 50) × (placed_over copied K1 + left_over copied K1 ≡ 53)
unfolding left_of all_picks found_of install_picks tape_of
a_copy_counts_pieces_twice = ((λ carries. let is : false ≡ true = ap (λ n. n == 47) (carries.quantities K1 refl) in cc), refl, refl)

-- ---- the two files are a chain

abbrev is_name : List ℕ → Bool
is_name bytes =
    (nat_lt 0 (length bytes) && nat_le (length bytes) 64)
    && (list_all (λ b. nat_le 32 b && nat_le b 126) bytes && (not (slice_index bytes 0 == 32) && not (slice_index bytes (length bytes - 1) == 32)))

printable : (b : ℕ) → (nat_le 32 b && nat_le b 126) ≡ true → (32 ≤ b) × (b ≤ 126)
printable b is = grind (arith, nat_tests)

name : (bytes : List ℕ) → is_name bytes ≡ true → IsId bytes
name bytes is =
    let all : list_all (λ b. nat_le 32 b && nat_le b 126) bytes ≡ true = grind (arith, nat_tests) in
    record {
      some = grind (arith, nat_tests);
      fits = grind (arith, nat_tests);
      printable = λ k d inside. printable _ (AllPass-from_list_all (λ b. nat_le 32 b && nat_le b 126) bytes all k d inside);
      no_space_first = grind (arith, nat_tests);
      no_space_last = grind (arith, nat_tests);
    }

each : {X : Type 0} (P : X → Type 0) (xs : List X) → AllByRecursion P xs → All P xs
each P [] all = All-nil P
each P (x ∷ xs) (first, rest) = All-cons P x xs first (each P xs rest)

marked : (n : Name) → (list_all is_designator_byte n && (nat_lt 0 (length n) && nat_le (length n) 16)) ≡ true → IsDesignator n
marked n is =
    let all : list_all is_designator_byte n ≡ true = grind (arith, nat_tests) in
    record { some = grind (arith, nat_tests); fits = grind (arith, nat_tests); marks = AllPass-from_list_all is_designator_byte n all }

few : {X : Type 0} (P : X → Type 0) (xs : List X) → AllByRecursion P xs → 1 ≤ length xs → length xs ≤ 5000 → IsListOf P xs
few P xs all some fits = record { count = (some, fits); each = each P xs all }

stamped : (minute : ℕ) (command : Command) → minute ≤ 1000 → IsCommand command → IsStamped (at minute command)
stamped minute command le range = record { uid = name _ refl; source = name _ refl; minute = omega (arith, le); command = range }

of-base : All IsStamped base
of-base =
    each IsStamped base (
      stamped 0 _ (omega arith) (name P refl),
      (
        stamped 0 _ (omega arith) (name Q refl),
        (
          stamped 0 _ (omega arith) (
            name PR refl,
            name M refl,
            few IsSheetRow _ (
              record {
                slot = name S1 refl;
                part = name P refl;
                designators = few IsDesignator _ (marked R1 refl, (marked R2 refl, (marked R3 refl, (marked R4 refl, (marked R5 refl, tt))))) (omega arith) (omega arith);
              },
              tt,
            ) (omega arith) (omega arith),
          ),
          (stamped 0 _ (omega arith) (name M refl, name PR refl), tt),
        ),
      ),
    )

-- The commands of the old desk and of the new one, without those of the setup.
abbrev old_later : List Stamped
old_later = drop 4 (old_begin ++ at 100 (MaterialsLoaded M S1 K1) ∷ old_end)

abbrev new_later : List Stamped
new_later = drop 4 (new_begin ++ at 90 (MaterialsLoaded M S1 K1) ∷ at 200 ClockSet ∷ [])

first_judged : IsJudged Two old
first_judged =
    subst (IsJudged Two) old_is_accepted (
    judged-run Two (old_begin ++ at 100 (MaterialsLoaded M S1 K1) ∷ old_end) [] (
    All-append IsStamped base old_later of-base (
    each IsStamped old_later (
      stamped 0 _ (omega arith) (name K1 refl, name P refl, name L1 refl, refl, (omega arith, omega arith)),
      (
        stamped 0 _ (omega arith) (name K1 refl),
        (
          stamped 10 _ (omega arith) (name K1 refl),
          (
            stamped 100 _ (omega arith) (name M refl, name S1 refl, name K1 refl),
            (
              stamped 100 _ (omega arith) (name M refl, name B1 refl),
              (
                stamped 100 _ (omega arith) (name M refl, name B1 refl, few IsDesignator _ (marked R1 refl, (marked R2 refl, (marked R3 refl, tt))) (omega arith) (omega arith)),
                (
                  stamped 100 _ (omega arith) (name M refl, name B1 refl),
                  (stamped 200 ClockSet (omega arith) tt, tt),
                ),
              ),
            ),
          ),
        ),
      ),
    ))) tt)

new_judged : IsJudged Two new
new_judged =
    subst (IsJudged Two) new_is_accepted (
    judged-run Two (new_begin ++ at 90 (MaterialsLoaded M S1 K1) ∷ at 200 ClockSet ∷ []) [] (
    All-append IsStamped base new_later of-base (
    each IsStamped new_later (
      stamped 90 _ (omega arith) (name K1 refl, name P refl, name L1 refl, refl, (omega arith, omega arith)),
      (
        stamped 90 _ (omega arith) (name M refl, name S1 refl, name K1 refl),
        (stamped 200 ClockSet (omega arith) tt, tt),
      ),
    ))) tt)

second_judged : IsJudged Two second_file.whole
second_judged =
    subst (IsJudged Two) all_is_accepted (
    judged-run Two second_commands new (
    each IsStamped second_commands (
      stamped 210 _ (omega arith) (name K2 refl, name P refl, name L2 refl, refl, (omega arith, omega arith)),
      (
        stamped 210 _ (omega arith) (name M refl, name S1 refl, name K2 refl),
        (
          stamped 211 _ (omega arith) (name M refl, name S1 refl, (omega arith, omega arith)),
          (
            stamped 212 _ (omega arith) (name M refl, name B2 refl),
            (
              stamped 212 _ (omega arith) (name M refl, name B2 refl, few IsDesignator _ (marked R1 refl, (marked R2 refl, tt)) (omega arith) (omega arith)),
              (stamped 213 _ (omega arith) (name M refl, name B2 refl), tt),
            ),
          ),
        ),
      ),
    )) new_judged)

begins : (H : History) (ss : List Stamped) → IsPrefix H (with H ss)
begins H [] = ([], refl)
begins H (s ∷ ss) =
    let rest = begins (accept H s) ss in
    (rest.0 ++ entry_of H s ∷ [], rest.1 ∙ sym (append_assoc rest.0 (entry_of H s ∷ []) H))

pub the_files_are_a_chain : IsChain files
the_files_are_a_chain =
    (second_judged, begins new second_commands, the_second_file_is_carried, (first_judged, (old, sym (append-nil old)), refl, tt))
