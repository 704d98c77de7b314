-- Worked cases of parts, alternates and the clock.
use Rattle.desk_types.proofs.Common.{[], ◌++◌, ◌∷◌, ◌≡◌, after_commands, alternate_refusal, codes}
use Rattle.desk_types.proofs.Common.{command_refusal, definition_refusal, left_of, List, live_on, map}
use Rattle.desk_types.proofs.Common.{mounting_refusal, None, part_refusal, receipt_refusal, refl, refusal_of}
use Rattle.desk_types.proofs.Common.{replies_to, selection_refusal, sheet_refusal, tape_of}
use Rattle.desk_types.proofs.RowsCommon.{at, base, base_replies, K1, K2, L1, M, N, P, PS, Q, R1, received, S1}
use Rattle.desk_types.proofs.RowsCommon.{said, sheet_row}
use Rattle.desk_types.specs.declared.answer.Detail.TheVariants.{MinutesLeft, Plain}
use Rattle.desk_types.specs.declared.answer.Refusal.TheVariants.{TooFarAhead, WrongPart}
use Rattle.desk_types.specs.declared.answer.Reply.TheVariants.{Accepted, Refused}
use Rattle.desk_types.specs.declared.command.Command.TheVariants.{AlternateAllowed, ClockSet, MaterialsLoaded}
use Rattle.desk_types.specs.declared.command.Command.TheVariants.{PartDefined, ProductSelected, SheetDefined}
use Rattle.desk_types.specs.declared.command.Entry.{Entry}
use Rattle.desk_types.specs.declared.command.Stamped.{Stamped}
use Rattle.desk_types.specs.declared.rules.Rules.TheVariants.{Two}

pub another_part_is_refused_at_its_slot : replies_to Two [] (base ++ said (
    received K1 Q L1 100
    ∷ MaterialsLoaded M S1 K1
    ∷ [])) ≡
    base_replies ++ Accepted Plain ∷ Refused (WrongPart K1) ∷ []
unfolding refusal_of command_refusal part_refusal definition_refusal sheet_refusal selection_refusal receipt_refusal mounting_refusal tape_of left_of live_on
another_part_is_refused_at_its_slot = refl

-- Once Q is an alternate of P, a load of Q is accepted where the sheet says P. The reverse is still
-- refused.
pub alternates_go_one_way : replies_to Two [] (base ++ said (
    received K1 Q L1 100
    ∷ MaterialsLoaded M S1 K1
    ∷ AlternateAllowed P Q
    ∷ MaterialsLoaded M S1 K1
    ∷ SheetDefined PS N (sheet_row S1 Q (R1 ∷ []) ∷ [])
    ∷ ProductSelected N PS
    ∷ received K2 P L1 100
    ∷ MaterialsLoaded N S1 K2
    ∷ [])) ≡
    base_replies ++ Accepted Plain ∷ Refused (WrongPart K1) ∷ Accepted Plain ∷ Accepted (MinutesLeft None) ∷ Accepted Plain ∷ Accepted Plain
    ∷ Accepted Plain ∷ Refused (WrongPart K2) ∷ []
unfolding refusal_of command_refusal part_refusal definition_refusal sheet_refusal selection_refusal receipt_refusal alternate_refusal mounting_refusal tape_of left_of live_on
alternates_go_one_way = refl

-- Two messages ahead of the desk, one late, and one that sets the clock.
abbrev ahead_and_behind : List Stamped
ahead_and_behind = base
    ++ at 20161 (PartDefined (codes "Z"))
    ∷ at 20160 (PartDefined (codes "Z"))
    ∷ at 20100 (PartDefined (codes "Y"))
    ∷ at 100000 ClockSet
    ∷ []

-- A message may be two weeks ahead but not more; a late one and any clock setting are accepted.
pub no_message_is_more_than_two_weeks_ahead : replies_to Two [] ahead_and_behind ≡
    base_replies ++ Refused TooFarAhead ∷ Accepted Plain ∷ Accepted Plain ∷ Accepted Plain ∷ []
unfolding refusal_of command_refusal part_refusal definition_refusal sheet_refusal selection_refusal
no_message_is_more_than_two_weeks_ahead = refl

-- The effective minutes, newest first: the late message takes effect at the desk minute.
pub late_message_takes_the_desk_minute : map (λ (e : Entry). e.effective) (after_commands Two [] ahead_and_behind) ≡ 100000 ∷ 20160 ∷ 20160 ∷ 0 ∷ 0 ∷ 0 ∷ 0 ∷ []
unfolding refusal_of command_refusal part_refusal definition_refusal sheet_refusal selection_refusal
late_message_takes_the_desk_minute = refl
