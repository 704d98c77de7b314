-- Causes as a JSON array.
use Rattle.desk_types.proofs.Common.{[], ◌∷◌, ◌≡◌, false, List, map, None, Option, refl, Some, ℕ}
use Rattle.desk_types.specs.Id.{Name}
use Rattle.desk_answers.specs.Texts.{refusal_word}
use Rattle.line_book.specs.declared.cause.Cause.{Cause}
use Rattle.line_book.specs.declared.cause.Cause.TheVariants.{NoWork, Open, NoSheet, AtSlot, Held}
use Rattle.line_book.specs.declared.note.Matter.{Matter}
use Rattle.line_answers.specs.State.{cause_object, entry_object, name_or_null, reel_in, refusal_in, slot_in, slot_object}
use Rattle.serde_json.specs.{View.items_of, Written.has_float, Written.items_have_float}

no_float : (name : Option Name) → has_float (name_or_null name) ≡ false
no_float None = refl
no_float (Some name) = refl

entry_whole : (n : ℕ) (m : Matter) → has_float (entry_object n m) ≡ false
entry_whole n m = rw (no_float (reel_in m), no_float (refusal_in m), no_float (slot_in m)) refl

slot_whole : (slot : Name) (reel : Option Name) (refusal : List ℕ) → has_float (slot_object slot reel refusal) ≡ false
slot_whole slot reel refusal = rw (no_float reel) refl

cause_whole : (c : Cause) → has_float (cause_object c) ≡ false
cause_whole NoWork = refl
cause_whole (Open n) = entry_whole n.number n.matter
cause_whole NoSheet = refl
cause_whole (AtSlot slot reel refusal) = slot_whole slot reel (refusal_word refusal)
cause_whole (Held slot reel n) = refl

pub causes_whole : (causes : List Cause) → items_have_float (items_of (map cause_object causes)) ≡ false
causes_whole [] = refl
causes_whole (c ∷ cs) = rw (cause_whole c) (causes_whole cs)
