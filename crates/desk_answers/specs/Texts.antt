-- Answers to commands. Each is one compact JSON object with its members in byte order of their
-- names.
use Rattle.std.specs.Prelude.{ℕ, List, map, Option, Some, None, codes}
use Rattle.serde_json.specs.Data.{Data, null, number, unsigned, string, array, object, member, no_members}
use Rattle.serde_json.specs.View.{items_of}
use Rattle.serde_json.specs.Written.{compact_text}
use Rattle.desk_types.specs.declared.answer.Detail.{Detail}
use Rattle.desk_types.specs.declared.answer.Detail.TheVariants.{Plain, MinutesLeft, Reels, Taken}
use Rattle.desk_types.specs.declared.answer.Refusal.{Refusal}
use Rattle.desk_types.specs.declared.answer.Refusal.TheVariants.{TooFarAhead, PartExists, UnknownPart, ReelExists, UnknownReel, UnknownSheet, MachineBusy, SlotTwice, DesignatorTwice, NoProduct, SlotNotOnSheet, SlotTaken, SlotEmpty, ReelMounted, ReelEmpty, WrongPart, NotBaked, Expired, BoardBusy, OtherProduct, NotInWork, DesignatorNotOnSheet, AlreadyPlaced, ReelShort, ReelTwice, CountAbove}
use Rattle.desk_types.specs.Id.{Name}

-- ---- accepted commands

-- Minutes, or null without a limit.
abbrev pub minutes : Option ℕ → Data
minutes None = null
minutes (Some n) = number (unsigned n)

-- The command with this UniqueID has this number, with details that depend on the command.
abbrev pub accepted_object : ℕ → Name → Detail → Data
accepted_object n uid Plain =
    object (member (codes "Answer") (string (codes "Accepted"))
    (member (codes "Number") (number (unsigned n))
    (member (codes "UniqueID") (string uid) no_members)))
accepted_object n uid (MinutesLeft left) =
    object (member (codes "Answer") (string (codes "Accepted"))
    (member (codes "MinutesLeft") (minutes left)
    (member (codes "Number") (number (unsigned n))
    (member (codes "UniqueID") (string uid) no_members))))
accepted_object n uid (Reels reels) =
    object (member (codes "Answer") (string (codes "Accepted"))
    (member (codes "Number") (number (unsigned n))
    (member (codes "Reels") (array (items_of (map string reels)))
    (member (codes "UniqueID") (string uid) no_members))))
accepted_object n uid (Taken pieces) =
    object (member (codes "Answer") (string (codes "Accepted"))
    (member (codes "Number") (number (unsigned n))
    (member (codes "Taken") (number (unsigned pieces))
    (member (codes "UniqueID") (string uid) no_members))))

-- The text of the answer to an accepted command.
unfoldable pub accepted_text : ℕ → Name → Detail → List ℕ
accepted_text n uid detail = compact_text (accepted_object n uid detail)

-- ---- refused commands

-- The name of a refusal.
abbrev pub refusal_word : Refusal → List ℕ
refusal_word TooFarAhead = codes "TooFarAhead"
refusal_word (PartExists part) = codes "PartExists"
refusal_word (UnknownPart part) = codes "UnknownPart"
refusal_word (ReelExists reel) = codes "ReelExists"
refusal_word (UnknownReel reel) = codes "UnknownReel"
refusal_word (UnknownSheet product) = codes "UnknownSheet"
refusal_word (MachineBusy machine) = codes "MachineBusy"
refusal_word (SlotTwice slot) = codes "SlotTwice"
refusal_word (DesignatorTwice designator) = codes "DesignatorTwice"
refusal_word (NoProduct machine) = codes "NoProduct"
refusal_word (SlotNotOnSheet slot) = codes "SlotNotOnSheet"
refusal_word (SlotTaken slot) = codes "SlotTaken"
refusal_word (SlotEmpty slot) = codes "SlotEmpty"
refusal_word (ReelMounted reel) = codes "ReelMounted"
refusal_word (ReelEmpty reel) = codes "ReelEmpty"
refusal_word (WrongPart place) = codes "WrongPart"
refusal_word (NotBaked place) = codes "NotBaked"
refusal_word (Expired place) = codes "Expired"
refusal_word (BoardBusy board) = codes "BoardBusy"
refusal_word (OtherProduct board) = codes "OtherProduct"
refusal_word (NotInWork board) = codes "NotInWork"
refusal_word (DesignatorNotOnSheet designator) = codes "DesignatorNotOnSheet"
refusal_word (AlreadyPlaced designator) = codes "AlreadyPlaced"
refusal_word (ReelShort place) = codes "ReelShort"
refusal_word (ReelTwice reel) = codes "ReelTwice"
refusal_word (CountAbove reel) = codes "CountAbove"

-- The name at fault, if the refusal has one.
abbrev pub place_of : Refusal → Option Name
place_of TooFarAhead = None
place_of (PartExists part) = Some part
place_of (UnknownPart part) = Some part
place_of (ReelExists reel) = Some reel
place_of (UnknownReel reel) = Some reel
place_of (UnknownSheet product) = Some product
place_of (MachineBusy machine) = Some machine
place_of (SlotTwice slot) = Some slot
place_of (DesignatorTwice designator) = Some designator
place_of (NoProduct machine) = Some machine
place_of (SlotNotOnSheet slot) = Some slot
place_of (SlotTaken slot) = Some slot
place_of (SlotEmpty slot) = Some slot
place_of (ReelMounted reel) = Some reel
place_of (ReelEmpty reel) = Some reel
place_of (WrongPart place) = Some place
place_of (NotBaked place) = Some place
place_of (Expired place) = Some place
place_of (BoardBusy board) = Some board
place_of (OtherProduct board) = Some board
place_of (NotInWork board) = Some board
place_of (DesignatorNotOnSheet designator) = Some designator
place_of (AlreadyPlaced designator) = Some designator
place_of (ReelShort place) = Some place
place_of (ReelTwice reel) = Some reel
place_of (CountAbove reel) = Some reel

-- The command is refused with this word, at this place.
abbrev pub refused_object : List ℕ → Option Name → Name → Data
refused_object word None uid =
    object (member (codes "Answer") (string (codes "Refused"))
    (member (codes "Refusal") (string word)
    (member (codes "UniqueID") (string uid) no_members)))
refused_object word (Some place) uid =
    object (member (codes "Answer") (string (codes "Refused"))
    (member (codes "At") (string place)
    (member (codes "Refusal") (string word)
    (member (codes "UniqueID") (string uid) no_members))))

-- Another message used the UniqueID; its command has this number.
abbrev pub id_reused_object : ℕ → Name → Data
id_reused_object n uid =
    object (member (codes "Answer") (string (codes "Refused"))
    (member (codes "Number") (number (unsigned n))
    (member (codes "Refusal") (string (codes "IdReused"))
    (member (codes "UniqueID") (string uid) no_members))))

-- The desk has no free number.
abbrev pub desk_full_object : Name → Data
desk_full_object uid = refused_object (codes "DeskFull") None uid

unfoldable pub refused_text : Refusal → Name → List ℕ
refused_text refusal uid =
    compact_text (refused_object (refusal_word refusal) (place_of refusal) uid)

unfoldable pub id_reused_text : ℕ → Name → List ℕ
id_reused_text n uid = compact_text (id_reused_object n uid)

unfoldable pub desk_full_text : Name → List ℕ
desk_full_text uid = compact_text (desk_full_object uid)
