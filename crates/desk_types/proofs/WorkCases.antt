-- Worked cases of boards in work.
use Rattle.desk_types.proofs.Common.{[], ◌++◌, ◌∷◌, ◌≡◌, codes, command_refusal, completion_refusal}
use Rattle.desk_types.proofs.Common.{definition_refusal, install_picks, install_refusal, left_of, live_on}
use Rattle.desk_types.proofs.Common.{mounting_refusal, None, part_refusal, receipt_refusal, refl, refusal_of}
use Rattle.desk_types.proofs.Common.{replies_to, scrap_refusal, selection_refusal, sheet_refusal}
use Rattle.desk_types.proofs.Common.{start_refusal, tape_of}
use Rattle.desk_types.proofs.RowsCommon.{B1, B2, base, base_replies, K1, L1, M, P, PR, PS, R1, R2, R3}
use Rattle.desk_types.proofs.RowsCommon.{received, S1, said, sheet_row}
use Rattle.desk_types.specs.declared.answer.Detail.TheVariants.{MinutesLeft, Plain, Reels}
use Rattle.desk_types.specs.declared.answer.Refusal.TheVariants.{DesignatorNotOnSheet, DesignatorTwice}
use Rattle.desk_types.specs.declared.answer.Refusal.TheVariants.{MachineBusy, NotInWork, OtherProduct}
use Rattle.desk_types.specs.declared.answer.Refusal.TheVariants.{ReelShort, SlotEmpty}
use Rattle.desk_types.specs.declared.answer.Reply.TheVariants.{Accepted, Refused}
use Rattle.desk_types.specs.declared.command.Command.TheVariants.{MaterialsInstalled, MaterialsLoaded}
use Rattle.desk_types.specs.declared.command.Command.TheVariants.{MaterialsScrapped, ProductSelected}
use Rattle.desk_types.specs.declared.command.Command.TheVariants.{SheetDefined, WorkCompleted, WorkStarted}
use Rattle.desk_types.specs.declared.rules.Rules.TheVariants.{Two}

pub work_needs_loaded_slots : replies_to Two [] (base ++ said (WorkStarted M B1 ∷ [])) ≡
    base_replies ++ Refused (SlotEmpty S1) ∷ []
unfolding refusal_of command_refusal part_refusal definition_refusal sheet_refusal selection_refusal start_refusal tape_of live_on
work_needs_loaded_slots = refl

-- During work on a machine, a new sheet for it and another board are refused. Work can be completed
-- only once. After another product is selected, the board is refused, because it was started as the
-- first product.
pub a_machine_in_work_waits : replies_to Two [] (base ++ said (
    received K1 P L1 10
    ∷ MaterialsLoaded M S1 K1
    ∷ WorkStarted M B1
    ∷ SheetDefined PR M (sheet_row S1 P (R1 ∷ []) ∷ [])
    ∷ WorkStarted M B2
    ∷ WorkCompleted M B1
    ∷ WorkCompleted M B1
    ∷ SheetDefined PS M (sheet_row S1 P (R1 ∷ []) ∷ [])
    ∷ ProductSelected M PS
    ∷ WorkStarted M B1
    ∷ [])) ≡
    base_replies ++ Accepted Plain ∷ Accepted (MinutesLeft None) ∷ Accepted Plain ∷ Refused (MachineBusy M) ∷ Refused (MachineBusy M)
    ∷ Accepted Plain ∷ Refused (NotInWork B1) ∷ Accepted Plain ∷ Accepted Plain ∷ Refused (OtherProduct B1) ∷ []
unfolding refusal_of command_refusal part_refusal definition_refusal sheet_refusal selection_refusal receipt_refusal mounting_refusal tape_of left_of live_on start_refusal completion_refusal
a_machine_in_work_waits = refl

-- An install names the board in work and its sheet's designators, each once and with pieces
-- available. Otherwise it places nothing. A slot with a spent reel counts as empty.
pub what_an_install_is_refused_for : replies_to Two [] (base ++ said (
    received K1 P L1 2
    ∷ MaterialsLoaded M S1 K1
    ∷ WorkStarted M B1
    ∷ MaterialsInstalled M B2 (R1 ∷ [])
    ∷ MaterialsInstalled M B1 (codes "R9" ∷ [])
    ∷ MaterialsInstalled M B1 (R1 ∷ R1 ∷ [])
    ∷ MaterialsInstalled M B1 (R1 ∷ R2 ∷ R3 ∷ [])
    ∷ MaterialsScrapped M S1 3
    ∷ MaterialsInstalled M B1 (R1 ∷ R2 ∷ [])
    ∷ MaterialsInstalled M B1 (R3 ∷ [])
    ∷ MaterialsScrapped M S1 1
    ∷ [])) ≡
    base_replies ++ Accepted Plain ∷ Accepted (MinutesLeft None) ∷ Accepted Plain ∷ Refused (NotInWork B2)
    ∷ Refused (DesignatorNotOnSheet (codes "R9")) ∷ Refused (DesignatorTwice R1) ∷ Refused (ReelShort R3) ∷ Refused (ReelShort S1)
    ∷ Accepted (Reels (K1 ∷ K1 ∷ [])) ∷ Refused (ReelShort R3) ∷ Refused (SlotEmpty S1) ∷ []
unfolding refusal_of command_refusal part_refusal definition_refusal sheet_refusal selection_refusal receipt_refusal mounting_refusal tape_of left_of live_on start_refusal install_refusal install_picks scrap_refusal
what_an_install_is_refused_for = refl
