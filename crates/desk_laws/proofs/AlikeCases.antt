-- A small desk and one that was begun as it ended, computed by the definitions: they are alike.
use Rattle.desk_types.proofs.Common.{[], ◌&&◌, ◌++◌, ◌+◌, ◌-◌, ◌<◌, ◌∙◌, ◌∷◌, ◌≡◌, ◌≤◌, accept}
use Rattle.desk_types.proofs.Common.{after_commands, AllByRecursion, ap, arith, Bool, closing_refusal}
use Rattle.desk_types.proofs.Common.{command_refusal, completion_refusal, definition_refusal, entry_of}
use Rattle.desk_types.proofs.Common.{exposure_of, false, History, if◌then◌else◌, install_picks}
use Rattle.desk_types.proofs.Common.{install_refusal, is_out_at, is_some, left_of, List, live_on}
use Rattle.desk_types.proofs.Common.{minutes_left, mounting_refusal, Name, nat_lt, None, open_by}
use Rattle.desk_types.proofs.Common.{opening_refusal, option_or, part_refusal, pieces_by, pieces_picked}
use Rattle.desk_types.proofs.Common.{receipt_of, receipt_refusal, refl, refusal_of, same, same-true}
use Rattle.desk_types.proofs.Common.{selection_refusal, sheet_refusal, Some, start_refusal, subst, sym}
use Rattle.desk_types.proofs.Common.{tape_after, tape_of, true, unwrap_or, ℕ}
use Rattle.desk_laws.proofs.Common.{AreAlike, at, B1, base, ClockSet, Entry, exposure-untouched}
use Rattle.desk_laws.proofs.Common.{exposure_starts-quiet, IsQuiet-untouched, IsSameReel, K1, M}
use Rattle.desk_laws.proofs.Common.{MaterialsInstalled, MaterialsLoaded, R1, R2, ReelOpened, ReelSealed, S1}
use Rattle.desk_laws.proofs.Common.{Stamped, Two, WorkCompleted, WorkStarted}
use Rattle.desk_types.proofs.{Exposure.exposure-after, RowsCommon.R3, RowsCommon.received_at}
use Rattle.desk_types.proofs.{RowsCommon.received_at_six}
use Rattle.desk_types.specs.{Pieces.picks_from, declared.level.Level.TheVariants.FiveA}
use Rattle.std.specs.List.{filter}

-- ---- the two desks

-- H with these commands, each accepted.
abbrev pub with : History → List Stamped → History
with H [] = H
with H (s ∷ ss) = with (accept H s) ss

-- The old desk: a reel of fifty pieces at level 5a lies open for ten minutes and is sealed. At minute 100 it is loaded, and three pieces
-- of it are placed on a board. At minute 200 the desk is closed.
abbrev pub old_begin : List Stamped
old_begin = base ++ at 0 (received_at FiveA K1 50) ∷ at 0 (ReelOpened K1) ∷ at 10 (ReelSealed K1) ∷ []

abbrev pub old_end : List Stamped
old_end =
    at 100 (WorkStarted M B1)
    ∷ at 100 (MaterialsInstalled M B1 (R1 ∷ R2 ∷ R3 ∷ []))
    ∷ at 100 (WorkCompleted M B1)
    ∷ at 200 ClockSet
    ∷ []

abbrev old_before : History
old_before = with [] old_begin

abbrev pub old : History
old = with (accept old_before (at 100 (MaterialsLoaded M S1 K1))) old_end

-- The new desk: the reel has the 47 pieces that are left, and is loaded at minute 90, so that at minute 200 it was open for 110 minutes.
abbrev pub new_begin : List Stamped
new_begin = base ++ at 90 (received_at FiveA K1 47) ∷ []

abbrev new_before : History
new_before = with [] new_begin

abbrev pub new : History
new = with (accept new_before (at 90 (MaterialsLoaded M S1 K1))) (at 200 ClockSet ∷ [])

-- Both desks accept all of this.
pub old_is_accepted : after_commands Two [] (old_begin ++ at 100 (MaterialsLoaded M S1 K1) ∷ old_end) ≡ old
unfolding refusal_of command_refusal part_refusal definition_refusal sheet_refusal selection_refusal receipt_refusal opening_refusal closing_refusal mounting_refusal tape_of left_of live_on is_out_at exposure_of start_refusal completion_refusal install_refusal install_picks
old_is_accepted = refl

pub new_is_accepted : after_commands Two [] (new_begin ++ at 90 (MaterialsLoaded M S1 K1) ∷ at 200 ClockSet ∷ []) ≡ new
unfolding refusal_of command_refusal part_refusal definition_refusal sheet_refusal selection_refusal receipt_refusal mounting_refusal tape_of left_of live_on is_out_at exposure_of
new_is_accepted = refl

-- ---- other names than theirs

nothing-less : (n m : ℕ) → n ≡ 0 → n - m ≡ 0
nothing-less n m none = omega (arith, none)

no-pieces : (H : History) (reel : Name) → AllByRecursion (λ (e : Entry). pieces_by reel e.stamped.command ≡ None) H → left_of H reel ≡ 0
unfolding left_of
no-pieces [] reel none = refl
no-pieces (e ∷ H) reel (none, rest) =
    ap (λ o. unwrap_or o (left_of H reel - pieces_picked (picks_from (left_of H) H e.stamped.command) reel)) none
    ∙ nothing-less (left_of H reel) (pieces_picked (picks_from (left_of H) H e.stamped.command) reel) (no-pieces H reel rest)

no-tape : (H : History) (machine slot : Name) → AllByRecursion (λ (e : Entry). tape_after machine slot e.stamped.command [] ≡ []) H → tape_of H machine slot ≡ []
unfolding tape_of
no-tape [] machine slot none = refl
no-tape (e ∷ H) machine slot (none, rest) = ap (tape_after machine slot e.stamped.command) (no-tape H machine slot rest) ∙ none

no-live : (H : History) (machine slot : Name) → tape_of H machine slot ≡ [] → live_on H machine slot ≡ []
unfolding live_on
no-live H machine slot none = ap (filter (λ reel. nat_lt 0 (left_of H reel))) none

-- ---- the reel's floor life

quiet : (reel : Name) (minute : ℕ) (ss : List Stamped) (H : History) → AllByRecursion (λ (s : Stamped). open_by reel s.command ≡ None) ss
    → exposure_of (with H ss) reel minute ≡ exposure_of H reel minute
quiet reel minute [] H none = refl
quiet reel minute (s ∷ ss) H (none, rest) =
    quiet reel minute ss (accept H s) rest
    ∙ exposure-untouched H (entry_of H s) reel none (exposure_starts-quiet H (entry_of H s) reel (IsQuiet-untouched reel _ s.command none)) minute

old-exposure : (minute : ℕ) → 100 ≤ minute → exposure_of old K1 minute ≡ 10 + (minute - 100)
unfolding is_out_at exposure_of
old-exposure minute le =
    quiet K1 minute old_end (accept old_before (at 100 (MaterialsLoaded M S1 K1))) (refl, (refl, (refl, (refl, tt))))
    ∙ exposure-after old_before (entry_of old_before (at 100 (MaterialsLoaded M S1 K1))) K1 true refl refl (omega arith) minute le

new-exposure : (minute : ℕ) → 90 ≤ minute → exposure_of new K1 minute ≡ 0 + (minute - 90)
unfolding is_out_at exposure_of
new-exposure minute le =
    quiet K1 minute (at 200 ClockSet ∷ []) (accept new_before (at 90 (MaterialsLoaded M S1 K1))) (refl, tt)
    ∙ exposure-after new_before (entry_of new_before (at 90 (MaterialsLoaded M S1 K1))) K1 true refl refl (omega arith) minute le

minutes : (minute : ℕ) → 200 ≤ minute → minutes_left old K1 minute ≡ minutes_left new K1 minute
minutes minute le =
    let of_old = old-exposure minute (omega (arith, le)) in
    let of_new = new-exposure minute (omega (arith, le)) in
    let is : exposure_of old K1 minute ≡ exposure_of new K1 minute = omega (arith, le, of_old, of_new) in
    ap (λ n. Some (1440 - n)) is

the-reel : IsSameReel old new K1
the-reel = record { part = refl; lot = refl; moisture = refl; unbaked = refl; out = refl; minutes = λ baked. minutes }

-- A reel that waits for its bake is the same, though its minutes out of the bag are not carried: its exposure begins anew with the bake.
abbrev opened_unbaked : History
opened_unbaked = with [] (base ++ at 0 (received_at_six 60 K1) ∷ at 0 (ReelOpened K1) ∷ at 30 (ReelSealed K1) ∷ [])

abbrev never_opened : History
never_opened = with [] (base ++ at 30 (received_at_six 60 K1) ∷ [])

pub an_unbaked_reel_is_the_same : IsSameReel opened_unbaked never_opened K1
an_unbaked_reel_is_the_same = record { part = refl; lot = refl; moisture = refl; unbaked = refl; out = refl; minutes = λ baked minute le. let no : true ≡ false = baked in cc }

-- ---- they are alike

left : (reel : Name) (b : Bool) → same K1 reel ≡ b → left_of old reel ≡ left_of new reel
unfolding left_of install_picks tape_of
left reel true is = subst (λ r. left_of old r ≡ left_of new r) (same-true K1 reel is) refl
left reel false is =
    no-pieces old reel (refl, (refl, (refl, (refl, (refl, (refl, (refl, (ap (λ b. if b then Some 50 else None) is, (refl, (refl, (refl, (refl, tt))))))))))))
    ∙ sym (no-pieces new reel (refl, (refl, (ap (λ b. if b then Some 47 else None) is, (refl, (refl, (refl, (refl, tt))))))))

elsewhere : (machine slot : Name) → (same M machine && same S1 slot) ≡ false → live_on old machine slot ≡ live_on new machine slot
elsewhere machine slot is =
    let load = ap (λ b. if b then K1 ∷ [] else []) is in
    no-live old machine slot (no-tape old machine slot (refl, (refl, (refl, (refl, (load, (refl, (refl, (refl, (refl, (refl, (refl, (refl, tt)))))))))))))
    ∙ sym (no-live new machine slot (no-tape new machine slot (refl, (load, (refl, (refl, (refl, (refl, (refl, tt)))))))))

slots : (machine slot : Name) (b c : Bool) → same M machine ≡ b → same S1 slot ≡ c → live_on old machine slot ≡ live_on new machine slot
unfolding left_of live_on install_picks tape_of
slots machine slot true true is_M is_S1 =
    subst (λ m. live_on old m slot ≡ live_on new m slot) (same-true M machine is_M)
    (subst (λ s. live_on old M s ≡ live_on new M s) (same-true S1 slot is_S1) refl)
slots machine slot true false is_M is_S1 = elsewhere machine slot (ap (λ b. b && same S1 slot) is_M ∙ is_S1)
slots machine slot false c is_M is_S1 = elsewhere machine slot (ap (λ b. b && same S1 slot) is_M)

received : (reel : Name) (b : Bool) → same K1 reel ≡ b → is_some (receipt_of new reel) ≡ true → is_some (receipt_of old reel) ≡ true
received reel true is known = subst (λ r. is_some (receipt_of old r) ≡ true) (same-true K1 reel is) refl
received reel false is known = let none = ap (λ b. is_some (option_or (if b then receipt_of new K1 else None) None)) is in let no = sym known ∙ none in cc

idle : (b : Bool) → unwrap_or (option_or (if b then Some None else None) (option_or (if b then Some (Some B1) else None) None)) None ≡ None
idle true = refl
idle false = refl

of-reel : (reel : Name) (b : Bool) → same K1 reel ≡ b → 0 < left_of old reel → IsSameReel old new reel
of-reel reel true is some = subst (IsSameReel old new) (same-true K1 reel is) the-reel
of-reel reel false is some =
    let none = no-pieces old reel (refl, (refl, (refl, (refl, (refl, (refl, (refl, (ap (λ b. if b then Some 50 else None) is, (refl, (refl, (refl, (refl, tt)))))))))))) in
    absurd (omega (arith, none, some))

-- The two desks are alike, though the reel was opened once on the new desk and twice on the old one.
pub a_carried_desk_is_alike : AreAlike old new
a_carried_desk_is_alike = record {
  minute = refl;
  parts = λ part. refl;
  alternates = λ part alternate. refl;
  sheets = λ product machine. refl;
  selections = λ machine. refl;
  old_idle = λ machine. idle (same M machine);
  new_idle = λ machine. refl;
  slots = λ machine slot. slots machine slot (same M machine) (same S1 slot) refl refl;
  left = λ reel. left reel (same K1 reel) refl;
  reels = λ reel some. of-reel reel (same K1 reel) refl some;
  boards_known = λ board is. let no : false ≡ true = is in cc;
  reels_known = λ reel is. received reel (same K1 reel) refl is;
}
