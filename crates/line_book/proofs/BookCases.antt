-- Worked cases: which entries are open, and when a machine may work.
use Rattle.desk_types.proofs.Common.{[], ◌∷◌, ◌≡◌, codes, left_of, live_on, None, refl, tape_of, true, false}
use Rattle.desk_types.proofs.RowsCommon.{B1, B2, K1, K2, L1, M, N, P, PS, R1, S1, S2, sheet_row}
use Rattle.desk_types.specs.declared.answer.Refusal.TheVariants.{SlotEmpty}
use Rattle.desk_types.specs.declared.command.Command.TheVariants.{ClockSet, MaterialsLoaded, MaterialsSpliced, MaterialsUnloaded, ProductSelected, SheetDefined, WorkCompleted, WorkStarted}
use Rattle.line_book.proofs.Cases.{contradicted, mistyped, mistyped_unload, note, refused, unread, unstarted, working}
use Rattle.line_book.specs.declared.cause.Cause.TheVariants.{NoWork, Open, NoSheet, AtSlot, Held}
use Rattle.line_book.specs.declared.note.Matter.TheVariants.{Handling, Decision, Hold, Release}
use Rattle.line_book.specs.declared.note.Stock.TheVariants.{Reel, Lot}
use Rattle.line_book.specs.Causes.{causes}
use Rattle.line_book.specs.Undecided.{is_known, undecided}

pub a_line_without_entries_works : causes (working []) [] M ≡ []
unfolding tape_of left_of live_on
a_line_without_entries_works = refl

-- The wrong reel may be on the slot now: the machine stops, and no clock, completion or other slot
-- makes it work again.
pub a_refused_load_stops : causes (working (ClockSet ∷ MaterialsLoaded N S1 K2 ∷ [])) (note 1 8 refused ∷ []) M
    ≡ Open (note 1 8 refused) ∷ []
unfolding tape_of left_of live_on
a_refused_load_stops = refl

pub a_splice_closes_a_refused_load : causes (working (MaterialsSpliced M S1 K2 ∷ [])) (note 1 8 refused ∷ []) M ≡ []
unfolding tape_of left_of live_on
a_splice_closes_a_refused_load = refl

-- What was accepted before the entry closes nothing.
pub an_earlier_load_closes_nothing : causes (working []) (note 1 6 refused ∷ note 2 8 refused ∷ []) M
    ≡ Open (note 2 8 refused) ∷ []
unfolding tape_of left_of live_on
an_earlier_load_closes_nothing = refl

-- Reel K2 is in front, and a splice puts a reel behind it. A load takes it off.
pub a_splice_leaves_a_difference_open : causes (working (MaterialsSpliced M S1 K2 ∷ []))
    (note 1 8 contradicted ∷ []) M ≡ Open (note 1 8 contradicted) ∷ []
unfolding tape_of left_of live_on
a_splice_leaves_a_difference_open = refl

pub a_load_closes_a_difference : causes (working (MaterialsUnloaded M S1 ∷ MaterialsLoaded M S1 K2 ∷ []))
    (note 1 8 contradicted ∷ []) M ≡ []
unfolding tape_of left_of live_on
a_load_closes_a_difference = refl

-- The reel of a mistyped slot is somewhere on the line until somebody mounts it, on any machine.
pub a_mistyped_slot_stops_until_its_reel_is_mounted : causes (working (MaterialsSpliced M S1 K1 ∷ []))
    (note 1 8 mistyped ∷ note 2 8 mistyped_unload ∷ []) M
    ≡ Open (note 1 8 mistyped) ∷ Open (note 2 8 mistyped_unload) ∷ []
unfolding tape_of left_of live_on
a_mistyped_slot_stops_until_its_reel_is_mounted = refl

pub a_reel_mounted_elsewhere_closes_it : causes (working (MaterialsLoaded N S2 K2 ∷ []))
    (note 1 8 mistyped ∷ []) M ≡ []
unfolding tape_of left_of live_on
a_reel_mounted_elsewhere_closes_it = refl

pub the_next_start_closes_refused_work : causes (working (WorkCompleted M B1 ∷ WorkStarted M B2 ∷ []))
    (note 1 8 unstarted ∷ note 2 8 refused ∷ []) M ≡ Open (note 2 8 refused) ∷ []
unfolding tape_of left_of live_on
the_next_start_closes_refused_work = refl

-- The board that was refused still waits for a decision.
pub refused_work_stays_undecided : undecided
    (note 1 8 unstarted ∷ note 2 8 refused ∷ note 3 9 contradicted ∷ note 4 9 (Decision 3) ∷ [])
    ≡ note 1 8 unstarted ∷ []
refused_work_stays_undecided = refl

pub a_decision_closes_one_entry : causes (working [])
    (note 1 8 refused ∷ note 2 8 contradicted ∷ note 3 8 (Decision 1) ∷ []) M ≡ Open (note 2 8 contradicted) ∷ []
unfolding tape_of left_of live_on
a_decision_closes_one_entry = refl

-- Slot 2 isn't on the sheet of product PR. The entry stops the machine once a sheet has the slot.
pub an_entry_of_another_sheet_is_silent : causes (working [])
    (note 1 8 (Handling M S2 None (codes "SlotEmpty")) ∷ []) M ≡ []
unfolding tape_of left_of live_on
an_entry_of_another_sheet_is_silent = refl

pub and_speaks_with_its_sheet : causes (working (WorkCompleted M B1 ∷ SheetDefined PS M (sheet_row S1 P (R1 ∷ [])
    ∷ sheet_row S2 P [] ∷ []) ∷ ProductSelected M PS ∷ [])) (note 1 8 (Handling M S2 None (codes "SlotEmpty")) ∷ []) M
    ≡ NoWork ∷ Open (note 1 8 (Handling M S2 None (codes "SlotEmpty"))) ∷ AtSlot S2 None (SlotEmpty S2) ∷ []
unfolding tape_of left_of live_on
and_speaks_with_its_sheet = refl

-- A hold of the reel and one of its lot stop each machine that has the reel in front. A release frees
-- what it names, and a decision about a hold frees nothing.
pub a_held_front_stops : causes (working [])
    (note 1 8 (Hold (Lot L1)) ∷ note 2 8 (Hold (Reel K1)) ∷ note 3 8 (Hold (Reel K2)) ∷ note 4 8 (Decision 1) ∷ []) M
    ≡ Held S1 K1 2 ∷ Held S1 K1 1 ∷ []
unfolding tape_of left_of live_on
a_held_front_stops = refl

pub a_release_frees_what_it_names : causes (working [])
    (note 1 8 (Hold (Lot L1)) ∷ note 2 8 (Hold (Reel K1)) ∷ note 3 8 (Release (Lot L1)) ∷ []) M ≡ Held S1 K1 2 ∷ []
unfolding tape_of left_of live_on
a_release_frees_what_it_names = refl

pub a_machine_without_a_sheet : causes (working []) [] N ≡ NoWork ∷ NoSheet ∷ []
unfolding tape_of left_of live_on
a_machine_without_a_sheet = refl

-- The same start is refused every two seconds: one entry.
pub a_repeat_is_known : is_known (working []) (note 1 8 unstarted ∷ []) (note 2 8 unstarted) ≡ true
a_repeat_is_known = refl

-- An install is refused, the next board starts, and the same install is refused again: a second entry,
-- and the machine stops again.
pub closed_work_is_written_again : is_known (working (WorkCompleted M B1 ∷ WorkStarted M B2 ∷ []))
    (note 1 8 unstarted ∷ []) (note 2 10 unstarted) ≡ false
closed_work_is_written_again = refl

pub and_stops_again : causes (working (WorkCompleted M B1 ∷ WorkStarted M B2 ∷ []))
    (note 1 8 unstarted ∷ note 2 10 unstarted ∷ []) M ≡ Open (note 2 10 unstarted) ∷ []
unfolding tape_of left_of live_on
and_stops_again = refl

pub after_a_decision_it_is_new : is_known (working []) (note 1 8 unstarted ∷ note 2 8 (Decision 1) ∷ [])
    (note 3 8 unstarted) ≡ false
after_a_decision_it_is_new = refl

-- A faulty message stops no machine. It is one entry until somebody decides.
pub a_faulty_message_is_known : is_known (working []) (note 1 8 unread ∷ []) (note 2 9 unread) ≡ true
a_faulty_message_is_known = refl

pub another_faulty_message_is_new : is_known (working []) (note 1 8 unread ∷ [])
    (record (note 2 9 unread) { text = codes "other" }) ≡ false
another_faulty_message_is_new = refl
