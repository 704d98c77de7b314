-- The members that are read. All others are skipped, whatever their values: this is a law about the
-- content of a message.
use Rattle.std.specs.Prelude.{◌≡◌, ◌⊎◌, ⊤, ℕ, Option, Some, None, Ok, List, [], ◌∷◌}
use Rattle.serde_json.specs.Data.{Data, Items, Members, array, object}
use Rattle.serde_json.specs.Find.{get}
use Rattle.desk_types.specs.declared.level.Level.TheVariants.{Six}
use Rattle.cfx_profile.specs.declared.member.Member.{Member}
use Rattle.cfx_profile.specs.declared.member.Member.TheVariants.{MessageName, UniqueId, Source, TimeStamp, MessageBody, PartNumber, Alternate, Product, Machine, Rows, Slot, Designators, Reel, Lot, Level, Quantity, LabelMinutes, Board, Counts}
use Rattle.desk_types.specs.declared.stored_word.Word.{Word}
use Rattle.desk_types.specs.declared.stored_word.Word.TheVariants as word
use Rattle.cfx_profile.specs.Forms.{text_at, level_in}
use Rattle.cfx_profile.specs.Lists.{items_list}
use Rattle.cfx_profile.specs.Member.{member_text}
use Rattle.cfx_profile.specs.Message.{value_of, said_in}
use Rattle.cfx_profile.specs.Word.{word_of}

-- ---- members

-- Two values have the same member, or both lack it.
abbrev pub SameOf : Member → Data → Data → Type 0
SameOf m a b = get (member_text m) a ≡ get (member_text m) b

-- The same for each of these members.
abbrev pub AgreeOn : List Member → Data → Data → Type 0
AgreeOn [] a b = ⊤
AgreeOn (m ∷ ms) a b = SameOf m a b × AgreeOn ms a b

-- ---- rows

-- Two rows are the same, or objects that agree on these members.
abbrev pub RowsAgree : List Member → Data → Data → Type 0
RowsAgree ms a b = (a ≡ b) ⊎ ((p : Members) × (q : Members) × (a ≡ object p) × (b ≡ object q)
    × AgreeOn ms (object p) (object q))

-- Equally many rows, and each pair agrees.
abbrev pub AllRowsAgree : List Member → List Data → List Data → Type 0
AllRowsAgree ms [] [] = ⊤
AllRowsAgree ms (a ∷ ds) (b ∷ es) = RowsAgree ms a b × AllRowsAgree ms ds es
AllRowsAgree ms [] (b ∷ es) = ⊥
AllRowsAgree ms (a ∷ ds) [] = ⊥

-- The member is the same, or a list of rows that agree.
abbrev pub ListsAgree : List Member → Member → Data → Data → Type 0
ListsAgree ms m a b =
    SameOf m a b
    ⊎ ((xs : Items) × (ys : Items) × (get (member_text m) a ≡ Some (array xs)) × (get
    (member_text m) b ≡ Some (array ys)) × AllRowsAgree ms (items_list xs) (items_list ys))

-- ---- bodies

-- The label is only read at level 6.
abbrev pub LabelsAgree : Data → Data → Type 0
LabelsAgree a b = level_in Level a ≡ Ok Six → SameOf LabelMinutes a b

-- Two bodies agree on a message's members, and their rows on a row's members.
abbrev pub BodiesAgree : Word → Data → Data → Type 0
BodiesAgree word.PartDefined a b = AgreeOn (PartNumber ∷ []) a b
BodiesAgree word.AlternateAllowed a b = AgreeOn (PartNumber ∷ Alternate ∷ []) a b
BodiesAgree word.SheetDefined a b = AgreeOn (Product ∷ Machine ∷ []) a b
    × ListsAgree (Slot ∷ PartNumber ∷ Designators ∷ []) Rows a b
BodiesAgree word.ProductSelected a b = AgreeOn (Machine ∷ Product ∷ []) a b
BodiesAgree word.ReelReceived a b =
    AgreeOn (Reel ∷ PartNumber ∷ Lot ∷ Level ∷ Quantity ∷ []) a b × LabelsAgree a b
BodiesAgree word.ReelOpened a b = AgreeOn (Reel ∷ []) a b
BodiesAgree word.ReelSealed a b = AgreeOn (Reel ∷ []) a b
BodiesAgree word.ReelBaked a b = AgreeOn (Reel ∷ []) a b
BodiesAgree word.MaterialsLoaded a b = AgreeOn (Machine ∷ Slot ∷ Reel ∷ []) a b
BodiesAgree word.MaterialsSpliced a b = AgreeOn (Machine ∷ Slot ∷ Reel ∷ []) a b
BodiesAgree word.MaterialsUnloaded a b = AgreeOn (Machine ∷ Slot ∷ []) a b
BodiesAgree word.WorkStarted a b = AgreeOn (Machine ∷ Board ∷ []) a b
BodiesAgree word.WorkCompleted a b = AgreeOn (Machine ∷ Board ∷ []) a b
BodiesAgree word.MaterialsInstalled a b = AgreeOn (Machine ∷ Board ∷ Designators ∷ []) a b
BodiesAgree word.MaterialsScrapped a b = AgreeOn (Machine ∷ Slot ∷ Quantity ∷ []) a b
BodiesAgree word.CountsTaken a b = ListsAgree (Reel ∷ Quantity ∷ []) Counts a b
BodiesAgree word.ClockSet a b = ⊤

-- ---- messages

-- Two envelopes have the same body, or bodies that agree for the message.
abbrev pub BodiesAgreeIn : Word → Data → Data → Type 0
BodiesAgreeIn w a b =
    SameOf MessageBody a b
    ⊎ ((p : Members) × (q : Members) × (get (member_text MessageBody) a ≡ Some (object p))
    × (get (member_text MessageBody) b ≡ Some (object q))
    × BodiesAgree w (object p) (object q))

-- Nothing else is read in a message with another name.
abbrev pub EnvelopesAgree : Option Word → Data → Data → Type 0
EnvelopesAgree None a b = ⊤
EnvelopesAgree (Some w) a b = AgreeOn (UniqueId ∷ Source ∷ TimeStamp ∷ []) a b × BodiesAgreeIn w a b

-- Two objects with the same name that agree on the members read under it have the same content.
abbrev pub OthersAreSkipped : Type 0
OthersAreSkipped =
    (bytes others : List ℕ) (a b : Members) → value_of bytes ≡ Some (object a)
    → value_of others ≡ Some (object b)
    → SameOf MessageName (object a) (object b)
    → ((name : List ℕ) → text_at MessageName (object a) ≡ Some name
    → EnvelopesAgree (word_of name) (object a) (object b))
    → said_in bytes ≡ said_in others
