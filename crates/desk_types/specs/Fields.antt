-- Reading a text field by field.
use Rattle.std.specs.Prelude.{All, flat_map, drop, decimal, length, ◌∷◌, ◌<◌, ◌^◌, ◌≡◌, ℕ, ◌==◌, ⊤, Option, Some, None, Result, Ok, Err, List, [], ◌++◌}
use Rattle.std.specs.List.{slice_split}
use Rattle.desk_types.specs.declared.stored_fields.Unread.{Unread}
use Rattle.desk_types.specs.declared.stored_fields.Unread.TheVariants.{NoMemory, NotStored}
use Rattle.desk_types.specs.declared.level.Level.{Level}
use Rattle.desk_types.specs.Level.{text_of}
use Rattle.desk_types.specs.StoredText.{Field, fields_of, word_text, stored_text}
use Rattle.desk_types.specs.Command.{IsCommand}
use Rattle.desk_types.specs.declared.command.Command.{Command}
use Rattle.desk_types.specs.declared.stored_word.Word.{Word}

abbrev pub fields_in : List ℕ → List Field
fields_in text = slice_split (λ byte. byte == 0x09) text

-- The remaining fields, or none after the last.
abbrev pub fields_left : Option (List ℕ) → List Field
fields_left None = []
fields_left (Some text) = fields_in text

-- Succeeds exactly if the fields begin with the spelling of a value in range; may run out of
-- memory.
abbrev pub Reads : {X : Type 0} → (X → Type 0) → (X → List Field) → List Field → List Field
    → Result X Unread → Type 0
Reads InRange spelling before after (Ok x) = InRange x × (before ≡ spelling x ++ after)
Reads {X} InRange spelling before after (Err NotStored) = (x : X) (more : List Field) → InRange x
    → ¬ (before ≡ spelling x ++ more)
Reads InRange spelling before after (Err NoMemory) = ⊤

-- No value's spelling is a prefix of another's, even with more fields after it.
abbrev pub IsPrefixFree : {X : Type 0} → (X → Type 0) → (X → List Field) → Type 0
IsPrefixFree {X} InRange spelling =
    (a b : X) (left right : List Field) → InRange a → InRange b
    → spelling a ++ left ≡ spelling b ++ right → (a ≡ b) × (left ≡ right)

-- The fields of two values in sequence.
abbrev pub PairInRange : {A B : Type 0} → (A → Type 0) → (B → Type 0) → A × B → Type 0
PairInRange First Second p = First p.0 × Second p.1

abbrev pub pair_fields : {A B : Type 0} → (A → List Field) → (B → List Field) → A × B → List Field
pair_fields first second p = first p.0 ++ second p.1

-- Three values in sequence.
abbrev pub TripleInRange : {A B C : Type 0} → (A → Type 0) → (B → Type 0)
    → (C → Type 0) → A × B × C → Type 0
TripleInRange First Second Third t = First t.0 × Second t.1 × Third t.2

abbrev pub triple_fields : {A B C : Type 0} → (A → List Field) → (B → List Field) → (C → List Field)
    → A × B × C → List Field
triple_fields first second third t = first t.0 ++ (second t.1 ++ third t.2)

abbrev pub number_fields : ℕ → List Field
number_fields n = decimal n ∷ []

abbrev pub level_fields : Level → List Field
level_fields level = text_of level ∷ []

-- A 64-bit number.
abbrev pub IsNumber : ℕ → Type 0
IsNumber n = n < 2 ^ 64

-- This many values, each in range.
abbrev pub AreCounted : {X : Type 0} → (X → Type 0) → ℕ → List X → Type 0
AreCounted InRange count xs = All InRange xs × (length xs ≡ count)

-- The fields, each preceded by a tab.
abbrev pub after_tabs : List Field → List ℕ
after_tabs fields = flat_map (λ field. 0x09 ∷ field) fields

-- The fields, separated by tabs.
abbrev pub fields_text : List Field → List ℕ
fields_text [] = []
fields_text (field ∷ fields) = field ++ after_tabs fields

-- The command's fields after its first.
abbrev pub members_of : Command → List Field
members_of command = drop 1 (fields_of command)

-- The command is in range, and this is its first field.
abbrev pub IsSaidBy : Word → Command → Type 0
IsSaidBy word command = IsCommand command
    × (fields_of command ≡ word_text word ∷ members_of command)

-- Reading a text succeeds exactly if it is the text of a command in range; may run out of memory.
abbrev pub IsReading : List ℕ → Result Command Unread → Type 0
IsReading text (Ok command) = (text ≡ stored_text command) × IsCommand command
IsReading text (Err NotStored) = (command : Command) → IsCommand command
    → ¬ (text ≡ stored_text command)
IsReading text (Err NoMemory) = ⊤
