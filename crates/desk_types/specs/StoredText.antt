-- The stored text of an accepted command: its kind and its members, separated by tabs.
use Rattle.std.specs.Prelude.{ℕ, List, [], ◌∷◌, codes, length, flat_map, decimal}
use Rattle.std.specs.List.{join_with_byte}
use Rattle.desk_types.specs.declared.command.Command.{Command}
use Rattle.desk_types.specs.declared.command.Command.TheVariants.{PartDefined, AlternateAllowed, SheetDefined, ProductSelected, ReelReceived, ReelOpened, ReelSealed, ReelBaked, MaterialsLoaded, MaterialsSpliced, MaterialsUnloaded, WorkStarted, WorkCompleted, MaterialsInstalled, MaterialsScrapped, CountsTaken, ClockSet}
use Rattle.desk_types.specs.declared.count.CountRow.{CountRow}
use Rattle.desk_types.specs.declared.sheet.SheetRow.{SheetRow}
use Rattle.desk_types.specs.declared.stored_word.Word.{Word}
use Rattle.desk_types.specs.declared.stored_word.Word.TheVariants as word
use Rattle.desk_types.specs.Level.{text_of}

-- A field's bytes.
abbrev pub Field : Type 0
Field = List ℕ

-- The first field of a command's text.
unfoldable pub word_text : Word → Field
word_text word.PartDefined = codes "PartDefined"
word_text word.AlternateAllowed = codes "AlternateAllowed"
word_text word.SheetDefined = codes "SheetDefined"
word_text word.ProductSelected = codes "ProductSelected"
word_text word.ReelReceived = codes "ReelReceived"
word_text word.ReelOpened = codes "ReelOpened"
word_text word.ReelSealed = codes "ReelSealed"
word_text word.ReelBaked = codes "ReelBaked"
word_text word.MaterialsLoaded = codes "MaterialsLoaded"
word_text word.MaterialsSpliced = codes "MaterialsSpliced"
word_text word.MaterialsUnloaded = codes "MaterialsUnloaded"
word_text word.WorkStarted = codes "WorkStarted"
word_text word.WorkCompleted = codes "WorkCompleted"
word_text word.MaterialsInstalled = codes "MaterialsInstalled"
word_text word.MaterialsScrapped = codes "MaterialsScrapped"
word_text word.CountsTaken = codes "CountsTaken"
word_text word.ClockSet = codes "ClockSet"

-- The kinds of commands.
abbrev pub words : List Word
words = word.PartDefined ∷ word.AlternateAllowed ∷ word.SheetDefined
    ∷ word.ProductSelected ∷ word.ReelReceived ∷ word.ReelOpened ∷ word.ReelSealed
    ∷ word.ReelBaked ∷ word.MaterialsLoaded ∷
    word.MaterialsSpliced ∷ word.MaterialsUnloaded ∷ word.WorkStarted ∷ word.WorkCompleted
    ∷ word.MaterialsInstalled ∷ word.MaterialsScrapped ∷ word.CountsTaken ∷ word.ClockSet ∷ []

-- A list's length, followed by the fields of its elements.
abbrev pub list_fields : {X : Type 0} → (X → List Field) → List X → List Field
list_fields fields xs = decimal (length xs) ∷ flat_map fields xs

abbrev pub name_fields : Field → List Field
name_fields name = name ∷ []

abbrev pub row_fields : SheetRow → List Field
row_fields row = row.slot ∷ row.part ∷ list_fields name_fields row.designators

abbrev pub count_fields : CountRow → List Field
count_fields row = row.reel ∷ decimal row.quantity ∷ []

-- The command's kind and its members in message order; numbers are decimal without leading zeros.
abbrev pub fields_of : Command → List Field
fields_of (PartDefined part) = word_text word.PartDefined ∷ part ∷ []
fields_of (AlternateAllowed part alternate) =
    word_text word.AlternateAllowed ∷ part ∷ alternate ∷ []
fields_of (SheetDefined product machine rows) =
    word_text word.SheetDefined ∷ product ∷ machine ∷ list_fields row_fields rows
fields_of (ProductSelected machine product) =
    word_text word.ProductSelected ∷ machine ∷ product ∷ []
fields_of (ReelReceived reel part lot moisture quantity) =
    word_text word.ReelReceived ∷ reel ∷ part ∷ lot ∷ text_of moisture.level ∷ decimal quantity
    ∷ decimal moisture.label ∷ []
fields_of (ReelOpened reel) = word_text word.ReelOpened ∷ reel ∷ []
fields_of (ReelSealed reel) = word_text word.ReelSealed ∷ reel ∷ []
fields_of (ReelBaked reel) = word_text word.ReelBaked ∷ reel ∷ []
fields_of (MaterialsLoaded machine slot reel) =
    word_text word.MaterialsLoaded ∷ machine ∷ slot ∷ reel ∷ []
fields_of (MaterialsSpliced machine slot reel) =
    word_text word.MaterialsSpliced ∷ machine ∷ slot ∷ reel ∷ []
fields_of (MaterialsUnloaded machine slot) = word_text word.MaterialsUnloaded ∷ machine ∷ slot ∷ []
fields_of (WorkStarted machine board) = word_text word.WorkStarted ∷ machine ∷ board ∷ []
fields_of (WorkCompleted machine board) = word_text word.WorkCompleted ∷ machine ∷ board ∷ []
fields_of (MaterialsInstalled machine board designators) =
    word_text word.MaterialsInstalled ∷ machine ∷ board ∷ list_fields name_fields designators
fields_of (MaterialsScrapped machine slot quantity) =
    word_text word.MaterialsScrapped ∷ machine ∷ slot ∷ decimal quantity ∷ []
fields_of (CountsTaken counts) = word_text word.CountsTaken ∷ list_fields count_fields counts
fields_of ClockSet = word_text word.ClockSet ∷ []

-- The command's text: its fields, separated by tabs.
unfoldable pub stored_text : Command → List ℕ
stored_text command = join_with_byte 0x09 (fields_of command)
