-- Worked cases of floor life.
use Rattle.desk_types.proofs.Common.{[], ◌++◌, ◌∷◌, ◌≡◌, closing_refusal, command_refusal, definition_refusal}
use Rattle.desk_types.proofs.Common.{exposure_of, is_out_at, left_of, List, live_on, mounting_refusal}
use Rattle.desk_types.proofs.Common.{opening_refusal, part_refusal, receipt_refusal, refl, refusal_of}
use Rattle.desk_types.proofs.Common.{replies_to, selection_refusal, sheet_refusal, Some, tape_of}
use Rattle.desk_types.proofs.Common.{unload_refusal, ℕ}
use Rattle.desk_types.proofs.RowsCommon.{at, base, base_replies, K1, K2, M, received_at, received_at_six, S1}
use Rattle.desk_types.specs.declared.answer.Detail.TheVariants.{MinutesLeft, Plain}
use Rattle.desk_types.specs.declared.answer.Refusal.TheVariants.{Expired, NotBaked}
use Rattle.desk_types.specs.declared.answer.Reply.TheVariants.{Accepted, Refused}
use Rattle.desk_types.specs.declared.command.Command.TheVariants.{MaterialsLoaded, MaterialsUnloaded}
use Rattle.desk_types.specs.declared.command.Command.TheVariants.{ReelBaked, ReelOpened, ReelSealed}
use Rattle.desk_types.specs.declared.command.Stamped.{Stamped}
use Rattle.desk_types.specs.declared.level.Level.TheVariants.{FiveA, Three}
use Rattle.desk_types.specs.declared.rules.Rules.TheVariants.{Two}

-- A reel of level 3 is loaded with one minute left of its 10,080. One minute later another reel,
-- opened with it, is refused.
pub floor_life_expires_at_its_limit : replies_to Two [] (base
    ++ at 0 (received_at Three K1 100)
    ∷ at 0 (received_at Three K2 100)
    ∷ at 0 (ReelOpened K1)
    ∷ at 0 (ReelOpened K2)
    ∷ at 10079 (MaterialsLoaded M S1 K1)
    ∷ at 10079 (MaterialsUnloaded M S1)
    ∷ at 10080 (MaterialsLoaded M S1 K2)
    ∷ []) ≡
    base_replies ++ Accepted Plain ∷ Accepted Plain ∷ Accepted Plain ∷ Accepted Plain ∷ Accepted (MinutesLeft (Some 1)) ∷ Accepted Plain
    ∷ Refused (Expired K2) ∷ []
unfolding refusal_of command_refusal part_refusal definition_refusal sheet_refusal selection_refusal receipt_refusal opening_refusal mounting_refusal tape_of left_of live_on unload_refusal is_out_at exposure_of
floor_life_expires_at_its_limit = refl

-- A reel of level 3 is opened at minute 0, and loaded at the given minute.
abbrev opened_and_loaded_at : ℕ → List Stamped
opened_and_loaded_at minute = base
    ++ at 0 (received_at Three K1 100)
    ∷ at 0 (ReelOpened K1)
    ∷ at minute (MaterialsLoaded M S1 K1)
    ∷ []

pub expired_at_the_very_minute : replies_to Two [] (opened_and_loaded_at 10080) ≡
    base_replies ++ Accepted Plain ∷ Accepted Plain ∷ Refused (Expired K1) ∷ []
unfolding refusal_of command_refusal part_refusal definition_refusal sheet_refusal selection_refusal receipt_refusal opening_refusal mounting_refusal tape_of left_of live_on is_out_at exposure_of
expired_at_the_very_minute = refl

pub one_minute_is_left_before : replies_to Two [] (opened_and_loaded_at 10079) ≡
    base_replies ++ Accepted Plain ∷ Accepted Plain ∷ Accepted (MinutesLeft (Some 1)) ∷ []
unfolding refusal_of command_refusal part_refusal definition_refusal sheet_refusal selection_refusal receipt_refusal opening_refusal mounting_refusal tape_of left_of live_on is_out_at exposure_of
one_minute_is_left_before = refl

-- An expired reel is refused. After a bake the same load, with the same minute, is accepted with
-- the whole floor life: it is judged again, at the desk minute.
pub a_bake_gives_the_whole_floor_life : replies_to Two [] (base
    ++ at 0 (received_at FiveA K1 10)
    ∷ at 0 (ReelOpened K1)
    ∷ at 1440 (MaterialsLoaded M S1 K1)
    ∷ at 1441 (ReelBaked K1)
    ∷ at 1440 (MaterialsLoaded M S1 K1)
    ∷ []) ≡
    base_replies ++ Accepted Plain ∷ Accepted Plain ∷ Refused (Expired K1) ∷ Accepted Plain ∷ Accepted (MinutesLeft (Some 1440)) ∷ []
unfolding refusal_of command_refusal part_refusal definition_refusal sheet_refusal selection_refusal receipt_refusal opening_refusal closing_refusal mounting_refusal tape_of left_of live_on is_out_at exposure_of
a_bake_gives_the_whole_floor_life = refl

-- A reel of level 6 is refused until it is baked. It then has the 60 minutes of its label, which
-- run only while it is open.
pub level_six_waits_for_its_bake : replies_to Two [] (base
    ++ at 0 (received_at_six 60 K1)
    ∷ at 0 (MaterialsLoaded M S1 K1)
    ∷ at 10 (ReelBaked K1)
    ∷ at 10 (ReelOpened K1)
    ∷ at 69 (MaterialsLoaded M S1 K1)
    ∷ []) ≡
    base_replies ++ Accepted Plain ∷ Refused (NotBaked K1) ∷ Accepted Plain ∷ Accepted Plain ∷ Accepted (MinutesLeft (Some 1)) ∷ []
unfolding refusal_of command_refusal part_refusal definition_refusal sheet_refusal selection_refusal receipt_refusal opening_refusal closing_refusal mounting_refusal tape_of left_of live_on is_out_at exposure_of
level_six_waits_for_its_bake = refl

-- Only the 100 minutes between opening and sealing count.
pub sealed_minutes_do_not_count : replies_to Two [] (base
    ++ at 0 (received_at FiveA K1 10)
    ∷ at 50 (ReelOpened K1)
    ∷ at 150 (ReelSealed K1)
    ∷ at 1000 (MaterialsLoaded M S1 K1)
    ∷ []) ≡
    base_replies ++ Accepted Plain ∷ Accepted Plain ∷ Accepted Plain ∷ Accepted (MinutesLeft (Some 1340)) ∷ []
unfolding refusal_of command_refusal part_refusal definition_refusal sheet_refusal selection_refusal receipt_refusal opening_refusal closing_refusal mounting_refusal tape_of left_of live_on is_out_at exposure_of
sealed_minutes_do_not_count = refl

pub opening_and_sealing_in_one_minute_counts_none : replies_to Two [] (base
    ++ at 0 (received_at FiveA K1 10)
    ∷ at 50 (ReelOpened K1)
    ∷ at 50 (ReelSealed K1)
    ∷ at 1000 (MaterialsLoaded M S1 K1)
    ∷ []) ≡
    base_replies ++ Accepted Plain ∷ Accepted Plain ∷ Accepted Plain ∷ Accepted (MinutesLeft (Some 1440)) ∷ []
unfolding refusal_of command_refusal part_refusal definition_refusal sheet_refusal selection_refusal receipt_refusal opening_refusal closing_refusal mounting_refusal tape_of left_of live_on is_out_at exposure_of
opening_and_sealing_in_one_minute_counts_none = refl
