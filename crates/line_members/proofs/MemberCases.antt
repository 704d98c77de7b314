-- Worked cases: attributes, reels that a machine names, and what is found.
use Rattle.desk_types.proofs.Common.{[], ◌∷◌, ◌≡◌, codes, false, if◌then◌else◌, List, Name, None, refl, same, Some}
use Rattle.desk_types.proofs.RowsCommon.{B1, K1, K2, K3, L1, M, P, R1, R2, R3, R4, S1, S2}
use Rattle.desk_types.specs.declared.take.Purpose.TheVariants.{Placed}
use Rattle.desk_types.specs.declared.take.Take.{Take}
use Rattle.cfx_profile.specs.Forms.{id_of, is_printable}
use Rattle.serde_json.specs.Data.{Data, Items, no_items, item, no_members, member, array, null, number, object, string, unsigned}
use Rattle.line_book.specs.declared.note.Matter.TheVariants.{Attribute, Boundary, Differs}
use Rattle.line_members.specs.declared.named_reels.MachineReels.TheVariants.{Absent, Uncompared, Named}
use Rattle.line_members.specs.Accepted.{compared}
use Rattle.line_members.specs.Comparison.{Tapes}
use Rattle.line_members.specs.NamedReels.{reels_said}
use Rattle.line_members.specs.Receipt.{attributes_in}

-- ---- attributes

-- An empty text and a number are no attributes.
pub a_receipt_with_two_attributes : attributes_in K1 (object
    (member (codes "Order") (string (codes "4711"))
    (member (codes "MakerPart") (number (unsigned 7))
    (member (codes "Supplier") (string [])
    (member (codes "DateCode") (string (codes "2614")) no_members)))))
    ≡ record { matter = Attribute K1 (codes "DateCode"); told = codes "2614" }
    ∷ record { matter = Attribute K1 (codes "Order"); told = codes "4711" } ∷ []
a_receipt_with_two_attributes = refl

-- ---- reels

abbrev items : List Data → Items
items [] = no_items
items (d ∷ ds) = item d (items ds)

pub null_names_no_reel : reels_said 2 (array (items (string (codes "K2") ∷ null ∷ [])))
    ≡ Named (Some (codes "K2") ∷ None ∷ [])
unfolding id_of is_printable
null_names_no_reel = refl

pub a_reel_too_few : reels_said 3 (array (items (string (codes "K2") ∷ null ∷ []))) ≡ Uncompared
a_reel_too_few = refl

pub one_bad_reel_leaves_all_uncompared : reels_said 2 (array (items (string (codes "K2") ∷ string (codes " K") ∷ [])))
    ≡ Uncompared
unfolding id_of is_printable
one_bad_reel_leaves_all_uncompared = refl

pub null_has_nothing_to_compare : reels_said 2 null ≡ Absent
null_has_nothing_to_compare = refl

pub a_text_is_no_list : reels_said 1 (string (codes "K2")) ≡ Uncompared
a_text_is_no_list = refl

-- ---- what is found

-- A piece from reel K1 on this slot.
abbrev piece : Name → Name → Take
piece slot designator = record {
  reel = K1;
  part = P;
  lot = L1;
  quantity = 1;
  purpose = Placed B1 designator M slot;
  overdue = false;
}

-- Reels K1 and K2 are on slot 1 of each machine, and no reel is on another slot.
abbrev tapes : Tapes
tapes machine slot = if same slot S1 then K1 ∷ K2 ∷ [] else []

-- The machine took the first and the last piece from the reel behind, and the third from another.
pub a_neighbor_and_another_reel : compared [] M B1 tapes
    (piece S1 R1 ∷ piece S1 R2 ∷ piece S1 R3 ∷ piece S1 R4 ∷ [])
    (Named (Some K2 ∷ None ∷ Some K3 ∷ Some K2 ∷ []))
    ≡ record { matter = Boundary M S1 B1 K2 K1; told = codes "R1 R4" }
    ∷ record { matter = Differs M S1 B1 K3 K1; told = codes "R3" } ∷ []
a_neighbor_and_another_reel = refl

-- Reel K2 is no neighbor on slot 2.
pub a_neighbor_on_another_slot : compared [] M B1 tapes (piece S2 R1 ∷ piece S2 R2 ∷ [])
    (Named (Some K2 ∷ Some K1 ∷ []))
    ≡ record { matter = Differs M S2 B1 K2 K1; told = codes "R1" } ∷ []
a_neighbor_on_another_slot = refl
