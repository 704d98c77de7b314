-- Worked cases of counts under both sets of rules.
use Rattle.desk_types.proofs.Common.{[], ◌++◌, ◌∷◌, ◌≡◌, after_commands, all_picks, command_refusal}
use Rattle.desk_types.proofs.Common.{definition_refusal, found_of, History, left_of, List, live_on}
use Rattle.desk_types.proofs.Common.{mounting_refusal, None, part_refusal, receipt_refusal, received_of, refl}
use Rattle.desk_types.proofs.Common.{refusal_of, replies_to, scrapped_of, selection_refusal, sheet_refusal}
use Rattle.desk_types.proofs.Common.{tape_of}
use Rattle.desk_types.proofs.RowsCommon.{base, base_replies, counted, K1, L1, M, P, received, S1, said}
use Rattle.desk_types.specs.declared.answer.Detail.TheVariants.{MinutesLeft, Plain, Taken}
use Rattle.desk_types.specs.declared.answer.Refusal.TheVariants.{CountAbove, ReelMounted}
use Rattle.desk_types.specs.declared.answer.Reply.TheVariants.{Accepted, Refused}
use Rattle.desk_types.specs.declared.command.Command.TheVariants.{CountsTaken, MaterialsLoaded}
use Rattle.desk_types.specs.declared.command.Stamped.{Stamped}
use Rattle.desk_types.specs.declared.rules.Rules.TheVariants.{One, Two}

-- A reel of ten pieces is counted at fifteen, then twelve, none and one.
abbrev counts : List Stamped
counts = base ++ said (
    received K1 P L1 10
    ∷ CountsTaken (counted K1 15 ∷ [])
    ∷ CountsTaken (counted K1 12 ∷ [])
    ∷ CountsTaken (counted K1 0 ∷ [])
    ∷ CountsTaken (counted K1 1 ∷ [])
    ∷ [])

-- Under rules Two the first count takes nothing because it finds five pieces. The last is refused:
-- a spent reel stays spent.
pub a_count_rises_by_rules_two : replies_to Two [] counts ≡
    base_replies ++ Accepted Plain ∷ Accepted (Taken 0) ∷ Accepted (Taken 3) ∷ Accepted (Taken 12) ∷ Refused (CountAbove K1) ∷ []
unfolding refusal_of command_refusal part_refusal definition_refusal sheet_refusal selection_refusal receipt_refusal tape_of left_of live_on
a_count_rises_by_rules_two = refl

pub no_count_rises_by_rules_one : replies_to One [] counts ≡
    base_replies ++ Accepted Plain ∷ Refused (CountAbove K1) ∷ Refused (CountAbove K1) ∷ Accepted (Taken 10) ∷ Refused (CountAbove K1) ∷ []
unfolding refusal_of command_refusal part_refusal definition_refusal sheet_refusal selection_refusal receipt_refusal tape_of left_of live_on
no_count_rises_by_rules_one = refl

-- The history after the first two counts under rules Two.
abbrev after_rise : History
after_rise = after_commands Two [] (base ++ said (
    received K1 P L1 10
    ∷ CountsTaken (counted K1 15 ∷ [])
    ∷ CountsTaken (counted K1 12 ∷ [])
    ∷ []))

-- Found pieces count as received: of fifteen, three were missing later and twelve remain.
pub found_pieces_count_as_received :
    (received_of after_rise K1 ≡ 15) × (found_of after_rise K1 ≡ 5) × (scrapped_of after_rise K1 ≡ 3) × (left_of after_rise K1 ≡ 12)
unfolding refusal_of command_refusal part_refusal definition_refusal sheet_refusal selection_refusal receipt_refusal tape_of left_of live_on all_picks found_of
found_pieces_count_as_received = (refl, refl, refl, refl)

pub a_mounted_reel_is_not_counted : replies_to Two [] (base ++ said (
    received K1 P L1 10
    ∷ MaterialsLoaded M S1 K1
    ∷ CountsTaken (counted K1 15 ∷ [])
    ∷ [])) ≡
    base_replies ++ Accepted Plain ∷ Accepted (MinutesLeft None) ∷ Refused (ReelMounted K1) ∷ []
unfolding refusal_of command_refusal part_refusal definition_refusal sheet_refusal selection_refusal receipt_refusal mounting_refusal tape_of left_of live_on
a_mounted_reel_is_not_counted = refl
