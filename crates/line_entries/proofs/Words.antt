-- The words of refusals and of faults are names.
use Rattle.desk_types.proofs.Common.{◌≡◌, refl, Some}
use Rattle.desk_types.specs.declared.answer.Refusal.{Refusal}
use Rattle.desk_types.specs.declared.answer.Refusal.TheVariants.{TooFarAhead, PartExists, UnknownPart, ReelExists}
use Rattle.desk_types.specs.declared.answer.Refusal.TheVariants.{UnknownReel, UnknownSheet, MachineBusy, SlotTwice}
use Rattle.desk_types.specs.declared.answer.Refusal.TheVariants.{DesignatorTwice, NoProduct, SlotNotOnSheet}
use Rattle.desk_types.specs.declared.answer.Refusal.TheVariants.{SlotTaken, SlotEmpty, ReelMounted, ReelEmpty}
use Rattle.desk_types.specs.declared.answer.Refusal.TheVariants.{WrongPart, NotBaked, Expired, BoardBusy}
use Rattle.desk_types.specs.declared.answer.Refusal.TheVariants.{OtherProduct, NotInWork, DesignatorNotOnSheet}
use Rattle.desk_types.specs.declared.answer.Refusal.TheVariants.{AlreadyPlaced, ReelShort, ReelTwice, CountAbove}
use Rattle.cfx_profile.specs.Forms.{id_of, is_printable}
use Rattle.desk_answers.specs.Texts.{refusal_word}

pub refusal_word-id : (r : Refusal) → id_of (refusal_word r) ≡ Some (refusal_word r)
unfolding id_of is_printable
refusal_word-id TooFarAhead = refl
refusal_word-id (PartExists name) = refl
refusal_word-id (UnknownPart name) = refl
refusal_word-id (ReelExists name) = refl
refusal_word-id (UnknownReel name) = refl
refusal_word-id (UnknownSheet name) = refl
refusal_word-id (MachineBusy name) = refl
refusal_word-id (SlotTwice name) = refl
refusal_word-id (DesignatorTwice name) = refl
refusal_word-id (NoProduct name) = refl
refusal_word-id (SlotNotOnSheet name) = refl
refusal_word-id (SlotTaken name) = refl
refusal_word-id (SlotEmpty name) = refl
refusal_word-id (ReelMounted name) = refl
refusal_word-id (ReelEmpty name) = refl
refusal_word-id (WrongPart name) = refl
refusal_word-id (NotBaked name) = refl
refusal_word-id (Expired name) = refl
refusal_word-id (BoardBusy name) = refl
refusal_word-id (OtherProduct name) = refl
refusal_word-id (NotInWork name) = refl
refusal_word-id (DesignatorNotOnSheet name) = refl
refusal_word-id (AlreadyPlaced name) = refl
refusal_word-id (ReelShort name) = refl
refusal_word-id (ReelTwice name) = refl
refusal_word-id (CountAbove name) = refl
