-- Worked cases of the reported state of reels and slots.
use Rattle.desk_types.proofs.Common.{[], ◌++◌, ◌∷◌, ◌≡◌, after_commands, all_picks, closing_refusal}
use Rattle.desk_types.proofs.Common.{command_refusal, definition_refusal, exposure_of, false, found_of}
use Rattle.desk_types.proofs.Common.{free_reels, History, install_picks, install_refusal, is_out_at, left_of}
use Rattle.desk_types.proofs.Common.{List, live_on, map, mounting_refusal, Name, None, opening_refusal}
use Rattle.desk_types.proofs.Common.{part_refusal, receipt_refusal, reel_view, refl, refusal_of}
use Rattle.desk_types.proofs.Common.{selection_refusal, sheet_refusal, Some, start_refusal, tape_of, true, ℕ}
use Rattle.desk_types.proofs.RowsCommon.{at, B1, base, counted, K1, K2, K3, K4, L1, M, N, P, PR, Q, R1, R2}
use Rattle.desk_types.proofs.RowsCommon.{R3, received, received_at, received_at_six, S1, S2, said, sheet_row}
use Rattle.desk_types.specs.View.{mounts_on}
use Rattle.desk_types.specs.declared.command.Command.TheVariants.{ClockSet, CountsTaken, MaterialsInstalled}
use Rattle.desk_types.specs.declared.command.Command.TheVariants.{MaterialsLoaded, MaterialsSpliced}
use Rattle.desk_types.specs.declared.command.Command.TheVariants.{PartDefined, ProductSelected, ReelOpened}
use Rattle.desk_types.specs.declared.command.Command.TheVariants.{ReelSealed, SheetDefined, WorkStarted}
use Rattle.desk_types.specs.declared.command.Stamped.{Stamped}
use Rattle.desk_types.specs.declared.level.Level.TheVariants.{FiveA, One, Three}
use Rattle.desk_types.specs.declared.rules.Rules.TheVariants.{Two}
use Rattle.desk_types.specs.declared.view.Left.{Left}
use Rattle.desk_types.specs.declared.view.Left.TheVariants.{Minutes, Unlimited}
use Rattle.desk_types.specs.declared.view.Mount.{Mount}
use Rattle.desk_types.specs.declared.view.ReelView.{ReelView}

-- Slot 2 comes first on the sheet. On slot 1 a reel of fifty pieces is spliced to one of two.
abbrev two_slots : List Stamped
two_slots = said (
    PartDefined P
    ∷ SheetDefined PR M (sheet_row S2 P (R2 ∷ []) ∷ sheet_row S1 P (R1 ∷ R3 ∷ []) ∷ [])
    ∷ ProductSelected M PR
    ∷ received K1 P L1 2
    ∷ received K2 P L1 50
    ∷ received K3 P L1 5
    ∷ MaterialsLoaded M S2 K3
    ∷ MaterialsLoaded M S1 K1
    ∷ MaterialsSpliced M S1 K2
    ∷ [])

-- A live reel of part P and lot L1 without a limit.
abbrev mount : Name → ℕ → Name → ℕ → Mount
mount slot position reel remaining =
    record { slot = slot; position = position; reel = reel; part = P; lot = L1; remaining = remaining; left = Unlimited }

-- Live reels are listed by slot and position; a machine without a sheet has no list.
pub live_reels_by_slot_and_position :
    (mounts_on (after_commands Two [] two_slots) M ≡ Some (mount S1 1 K1 2 ∷ mount S1 2 K2 50 ∷ mount S2 1 K3 5 ∷ []))
    × (mounts_on (after_commands Two [] two_slots) N ≡ None)
unfolding refusal_of command_refusal part_refusal definition_refusal sheet_refusal selection_refusal receipt_refusal mounting_refusal tape_of left_of live_on
live_reels_by_slot_and_position = (refl, refl)

-- The history after a board took both pieces of the first reel on slot 1.
abbrev after_two_pieces : History
after_two_pieces = after_commands Two [] (two_slots ++ said (WorkStarted M B1 ∷ MaterialsInstalled M B1 (R1 ∷ R3 ∷ []) ∷ []))

-- A spent reel is not listed: the next one is the front.
pub a_spent_reel_is_not_told : mounts_on after_two_pieces M ≡ Some (mount S1 1 K2 50 ∷ mount S2 1 K3 5 ∷ [])
unfolding refusal_of command_refusal part_refusal definition_refusal sheet_refusal selection_refusal receipt_refusal mounting_refusal tape_of left_of live_on start_refusal install_refusal install_picks
a_spent_reel_is_not_told = refl

-- A reel of part P, lot L1 and level 1, opened at minute 0.
abbrev opened : Name → ℕ → ℕ → ℕ → ReelView
opened reel got placed remaining = record {
  reel = reel;
  part = P;
  lot = L1;
  level = One;
  label = 0;
  received = got;
  found = 0;
  placed = placed;
  scrapped = 0;
  remaining = remaining;
  left = Unlimited;
  mounted = false;
  is_open = true;
  used = 0;
  open_since = Some 0;
  baked = false;
}

-- The spent reel is on no slot, and both its pieces were placed. A reel that wasn't received has no
-- view.
pub a_spent_reel_was_placed : (reel_view after_two_pieces K1 ≡ Some (opened K1 2 2 0)) × (reel_view after_two_pieces K4 ≡ None)
unfolding refusal_of command_refusal part_refusal definition_refusal sheet_refusal selection_refusal receipt_refusal mounting_refusal tape_of left_of live_on is_out_at exposure_of start_refusal install_refusal install_picks all_picks found_of
a_spent_reel_was_placed = (refl, refl)

-- A reel of level 3 is open for ten minutes, then sealed. A count shows four pieces missing. It is
-- loaded, and ten minutes pass.
abbrev after_ten_minutes : History
after_ten_minutes = after_commands Two [] (base
    ++ at 0 (received_at Three K1 10)
    ∷ at 5 (ReelOpened K1)
    ∷ at 15 (ReelSealed K1)
    ∷ at 15 (CountsTaken (counted K1 6 ∷ []))
    ∷ at 20 (MaterialsLoaded M S1 K1)
    ∷ at 30 ClockSet
    ∷ [])

-- Twenty minutes of its floor life are used: ten before the load and ten since.
pub a_loaded_reel_is_told_at_the_desk_minute : reel_view after_ten_minutes K1 ≡ Some (record {
  reel = K1;
  part = P;
  lot = L1;
  level = Three;
  label = 0;
  received = 10;
  found = 0;
  placed = 0;
  scrapped = 4;
  remaining = 6;
  left = Minutes 10060;
  mounted = true;
  is_open = true;
  used = 10;
  open_since = Some 20;
  baked = false;
})
unfolding refusal_of command_refusal part_refusal definition_refusal sheet_refusal selection_refusal receipt_refusal opening_refusal closing_refusal mounting_refusal tape_of left_of live_on is_out_at exposure_of all_picks found_of
a_loaded_reel_is_told_at_the_desk_minute = refl

-- Four reels: one without a limit, one open with floor life left, one that waits for its bake, and
-- one expired.
abbrev after_a_day : History
after_a_day = after_commands Two [] (base
    ++ at 0 (received_at One K1 100)
    ∷ at 0 (received_at Three K2 30)
    ∷ at 0 (received_at_six 60 K3)
    ∷ at 0 (received_at FiveA K4 10)
    ∷ at 0 (ReelOpened K2)
    ∷ at 0 (ReelOpened K4)
    ∷ at 1440 ClockSet
    ∷ [])

-- The free reels for a part with their remaining floor life.
abbrev free_on : History → Name → List (Name × Left)
free_on H part = map (λ (v : ReelView). (v.reel, v.left)) (free_reels H part)

-- The reel with a limit is used first. A mounted reel is not free.
pub free_reels_by_what_is_left :
    (free_on after_a_day P ≡ (K2, Minutes 8640) ∷ (K1, Unlimited) ∷ []) × (free_on after_a_day Q ≡ []) × (free_on after_ten_minutes P ≡ [])
unfolding refusal_of command_refusal part_refusal definition_refusal sheet_refusal selection_refusal receipt_refusal opening_refusal closing_refusal mounting_refusal tape_of left_of live_on is_out_at exposure_of all_picks found_of
free_reels_by_what_is_left = (refl, refl, refl)
