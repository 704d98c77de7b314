-- A command consists of its kind and its members.
use Rattle.desk_types.proofs.Common.{[], ⊤, ◌++◌, ◌∙◌, ◌∷◌, ◌≡◌, ap, arith, count_fields, Err, Field}
use Rattle.desk_types.proofs.Common.{fields_of, IsCommand, IsCountRow, IsDesignator, IsErrAnd, IsId, IsLabel}
use Rattle.desk_types.proofs.Common.{IsListOf, IsNumber, IsQuantity, IsSheetRow, List, list_fields}
use Rattle.desk_types.proofs.Common.{members_of, Name, name_fields, number_fields, numbers_apart, Ok}
use Rattle.desk_types.proofs.Common.{quantities_fit, refl, Result, row_fields, subst, sym, triple_fields}
use Rattle.desk_types.proofs.Common.{TripleInRange, word_text, ℕ}
use Rattle.desk_types.proofs.Words.{word_text-apart}
use Rattle.desk_types.specs.Apart.{counts_apart, levels_apart, lists_apart, names_apart, pairs_apart}
use Rattle.desk_types.specs.Apart.{rows_apart, triples_apart}
use Rattle.desk_types.specs.Fields.{IsPrefixFree, IsSaidBy, level_fields, Reads}
use Rattle.desk_types.specs.declared.command.Command.{Command}
use Rattle.desk_types.specs.declared.count.CountRow.{CountRow}
use Rattle.desk_types.specs.declared.level.Level.{Level}
use Rattle.desk_types.specs.declared.level.Level.TheVariants.{Five, FiveA, Four, One, Six, Three, Two, TwoA}
use Rattle.desk_types.specs.declared.sheet.SheetRow.{SheetRow}
use Rattle.desk_types.specs.declared.stored_fields.Unread.{Unread}
use Rattle.desk_types.specs.declared.stored_fields.Unread.TheVariants.{NoMemory, NotStored}
use Rattle.desk_types.specs.declared.stored_word.Word.{Word}
use Rattle.desk_types.specs.declared.stored_word.Word.TheVariants.{AlternateAllowed, ClockSet, CountsTaken}
use Rattle.desk_types.specs.declared.stored_word.Word.TheVariants.{MaterialsInstalled, MaterialsLoaded}
use Rattle.desk_types.specs.declared.stored_word.Word.TheVariants.{MaterialsScrapped, MaterialsSpliced}
use Rattle.desk_types.specs.declared.stored_word.Word.TheVariants.{MaterialsUnloaded, PartDefined}
use Rattle.desk_types.specs.declared.stored_word.Word.TheVariants.{ProductSelected, ReelBaked, ReelOpened}
use Rattle.desk_types.specs.declared.stored_word.Word.TheVariants.{ReelReceived, ReelSealed, SheetDefined}
use Rattle.desk_types.specs.declared.stored_word.Word.TheVariants.{WorkCompleted, WorkStarted}
use Rattle.desk_types.specs.declared.command.Command.TheVariants as command

abbrev pub word_of : Command → Word
word_of (command.PartDefined _) = PartDefined
word_of (command.AlternateAllowed _ _) = AlternateAllowed
word_of (command.SheetDefined _ _ _) = SheetDefined
word_of (command.ProductSelected _ _) = ProductSelected
word_of (command.ReelReceived _ _ _ _ _) = ReelReceived
word_of (command.ReelOpened _) = ReelOpened
word_of (command.ReelSealed _) = ReelSealed
word_of (command.ReelBaked _) = ReelBaked
word_of (command.MaterialsLoaded _ _ _) = MaterialsLoaded
word_of (command.MaterialsSpliced _ _ _) = MaterialsSpliced
word_of (command.MaterialsUnloaded _ _) = MaterialsUnloaded
word_of (command.WorkStarted _ _) = WorkStarted
word_of (command.WorkCompleted _ _) = WorkCompleted
word_of (command.MaterialsInstalled _ _ _) = MaterialsInstalled
word_of (command.MaterialsScrapped _ _ _) = MaterialsScrapped
word_of (command.CountsTaken _) = CountsTaken
word_of command.ClockSet = ClockSet

abbrev pub MembersOf : Word → Type 0
MembersOf PartDefined = Name
MembersOf AlternateAllowed = Name × Name
MembersOf SheetDefined = Name × Name × List SheetRow
MembersOf ProductSelected = Name × Name
MembersOf ReelReceived = (Name × Name × Name) × (Level × ℕ × ℕ)
MembersOf ReelOpened = Name
MembersOf ReelSealed = Name
MembersOf ReelBaked = Name
MembersOf MaterialsLoaded = Name × Name × Name
MembersOf MaterialsSpliced = Name × Name × Name
MembersOf MaterialsUnloaded = Name × Name
MembersOf WorkStarted = Name × Name
MembersOf WorkCompleted = Name × Name
MembersOf MaterialsInstalled = Name × Name × List Name
MembersOf MaterialsScrapped = Name × Name × ℕ
MembersOf CountsTaken = List CountRow
MembersOf ClockSet = ⊤

-- The command of this kind with these members.
abbrev pub made : (word : Word) → MembersOf word → Command
made PartDefined m = command.PartDefined m
made AlternateAllowed m = command.AlternateAllowed m.0 m.1
made SheetDefined m = command.SheetDefined m.0 m.1 m.2
made ProductSelected m = command.ProductSelected m.0 m.1
made ReelReceived m = command.ReelReceived m.0.0 m.0.1 m.0.2 (record { level = m.1.0; label = m.1.2 }) m.1.1
made ReelOpened m = command.ReelOpened m
made ReelSealed m = command.ReelSealed m
made ReelBaked m = command.ReelBaked m
made MaterialsLoaded m = command.MaterialsLoaded m.0 m.1 m.2
made MaterialsSpliced m = command.MaterialsSpliced m.0 m.1 m.2
made MaterialsUnloaded m = command.MaterialsUnloaded m.0 m.1
made WorkStarted m = command.WorkStarted m.0 m.1
made WorkCompleted m = command.WorkCompleted m.0 m.1
made MaterialsInstalled m = command.MaterialsInstalled m.0 m.1 m.2
made MaterialsScrapped m = command.MaterialsScrapped m.0 m.1 m.2
made CountsTaken m = command.CountsTaken m
made ClockSet m = command.ClockSet

opened : (c : Command) → (m : MembersOf (word_of c)) × (c ≡ made (word_of c) m)
opened (command.PartDefined part) = (part, refl)
opened (command.AlternateAllowed part alternate) = ((part, alternate), refl)
opened (command.SheetDefined product machine rows) = ((product, machine, rows), refl)
opened (command.ProductSelected machine product) = ((machine, product), refl)
opened (command.ReelReceived reel part lot moisture quantity) = (((reel, part, lot), (moisture.level, quantity, moisture.label)), refl)
opened (command.ReelOpened reel) = (reel, refl)
opened (command.ReelSealed reel) = (reel, refl)
opened (command.ReelBaked reel) = (reel, refl)
opened (command.MaterialsLoaded machine slot reel) = ((machine, slot, reel), refl)
opened (command.MaterialsSpliced machine slot reel) = ((machine, slot, reel), refl)
opened (command.MaterialsUnloaded machine slot) = ((machine, slot), refl)
opened (command.WorkStarted machine board) = ((machine, board), refl)
opened (command.WorkCompleted machine board) = ((machine, board), refl)
opened (command.MaterialsInstalled machine board designators) = ((machine, board, designators), refl)
opened (command.MaterialsScrapped machine slot quantity) = ((machine, slot, quantity), refl)
opened (command.CountsTaken counts) = (counts, refl)
opened command.ClockSet = (tt, refl)

pub fields_are : (c : Command) → fields_of c ≡ word_text (word_of c) ∷ members_of c
fields_are (command.PartDefined part) = refl
fields_are (command.AlternateAllowed part alternate) = refl
fields_are (command.SheetDefined product machine rows) = refl
fields_are (command.ProductSelected machine product) = refl
fields_are (command.ReelReceived reel part lot moisture quantity) = refl
fields_are (command.ReelOpened reel) = refl
fields_are (command.ReelSealed reel) = refl
fields_are (command.ReelBaked reel) = refl
fields_are (command.MaterialsLoaded machine slot reel) = refl
fields_are (command.MaterialsSpliced machine slot reel) = refl
fields_are (command.MaterialsUnloaded machine slot) = refl
fields_are (command.WorkStarted machine board) = refl
fields_are (command.WorkCompleted machine board) = refl
fields_are (command.MaterialsInstalled machine board designators) = refl
fields_are (command.MaterialsScrapped machine slot quantity) = refl
fields_are (command.CountsTaken counts) = refl
fields_are command.ClockSet = refl

pub said : (word : Word) (c : Command) → fields_of c ≡ word_text word ∷ members_of c → (m : MembersOf word) × (c ≡ made word m)
said word c is =
    let texts : word_text (word_of c) ≡ word_text word = let e = fields_are c in cc in
    subst (λ w. (m : MembersOf w) × (c ≡ made w m)) (word_text-apart (word_of c) word texts) (opened c)

pub word_unread : (W : Word) (Is : MembersOf W → Type 0) (spelling : MembersOf W → List Field)
    → ((m : MembersOf W) → IsCommand (made W m) → Is m) → ((m : MembersOf W) → members_of (made W m) ≡ spelling m)
    → (word : Word) → word ≡ W → (before after then : List Field) (fault : Unread) (r : Result Command Unread)
    → IsErrAnd r (λ e. e ≡ fault) → Reads Is spelling before after (Err fault) → Reads (IsSaidBy word) members_of before then r
word_unread W Is spelling is spelled word same before after then fault (Ok c) err unread = absurd err
word_unread W Is spelling is spelled word same before after then fault (Err f) err unread =
    subst (λ w. Reads (IsSaidBy w) members_of before then (Err f)) (sym same) (subst (λ g. Reads (IsSaidBy W) members_of before then (Err g)) (sym err) (by fault unread))
  where
    by : (fault : Unread) → Reads Is spelling before after (Err fault) → Reads (IsSaidBy W) members_of before then (Err fault)
    by NoMemory unread = tt
    by NotStored unread = λ c more here e.
        let m = said W c here.1 in
        unread m.0 more (is m.0 (subst IsCommand m.1 here.0)) (e ∙ ap (λ x. members_of x ++ more) m.1 ∙ ap (λ fields. fields ++ more) (spelled m.0))

pub label_fits : (level : Level) (label : ℕ) → IsLabel level label → IsNumber label
label_fits One label is = omega arith
label_fits Two label is = omega arith
label_fits TwoA label is = omega arith
label_fits Three label is = omega arith
label_fits Four label is = omega arith
label_fits Five label is = omega arith
label_fits FiveA label is = omega arith
label_fits Six label is = omega arith

-- The members of a receipt, in reading order.
abbrev pub AreOfReceipt : MembersOf ReelReceived → Type 0
AreOfReceipt m = TripleInRange IsId IsId IsId m.0 × TripleInRange (λ _. ⊤) IsQuantity IsNumber m.1

abbrev pub receipt_fields : MembersOf ReelReceived → List Field
receipt_fields m = triple_fields name_fields name_fields name_fields m.0 ++ triple_fields level_fields number_fields number_fields m.1

pub receipt_in_range : (m : MembersOf ReelReceived) → IsCommand (made ReelReceived m) → AreOfReceipt m
receipt_in_range m is = ((is.0, is.1, is.2), (tt, is.4, label_fits m.1.0 m.1.2 is.3))

two_names : IsPrefixFree (λ (m : Name × Name). IsId m.0 × IsId m.1) (λ m. m.0 ∷ m.1 ∷ [])
two_names = pairs_apart IsId IsId name_fields name_fields (names_apart IsId) (names_apart IsId)

two_names_and : {X : Type 0} (Is : X → Type 0) (spelling : X → List Field) → IsPrefixFree Is spelling
    → IsPrefixFree (λ (m : Name × Name × X). IsId m.0 × IsId m.1 × Is m.2) (λ m. m.0 ∷ m.1 ∷ spelling m.2)
two_names_and Is spelling apart = triples_apart IsId IsId Is name_fields name_fields spelling (names_apart IsId) (names_apart IsId) apart

pub receipts_apart : IsPrefixFree AreOfReceipt receipt_fields
receipts_apart =
    pairs_apart (TripleInRange IsId IsId IsId) (TripleInRange (λ _. ⊤) IsQuantity IsNumber) (triple_fields name_fields name_fields name_fields) (triple_fields level_fields number_fields number_fields)
    (triples_apart IsId IsId IsId name_fields name_fields name_fields (names_apart IsId) (names_apart IsId) (names_apart IsId))
    (triples_apart (λ _. ⊤) IsQuantity IsNumber level_fields number_fields number_fields (levels_apart (λ _. ⊤)) (numbers_apart IsQuantity quantities_fit) (numbers_apart IsNumber (λ n fits. fits)))

apart_by_word : (word : Word) → IsPrefixFree (λ (m : MembersOf word). IsCommand (made word m)) (λ m. members_of (made word m))
apart_by_word PartDefined = names_apart IsId
apart_by_word AlternateAllowed = two_names
apart_by_word SheetDefined = two_names_and (IsListOf IsSheetRow) (list_fields row_fields) (lists_apart IsSheetRow row_fields rows_apart)
apart_by_word ProductSelected = two_names
apart_by_word ReelReceived = λ a b left right is_a is_b e. receipts_apart a b left right (receipt_in_range a is_a) (receipt_in_range b is_b) e
apart_by_word ReelOpened = names_apart IsId
apart_by_word ReelSealed = names_apart IsId
apart_by_word ReelBaked = names_apart IsId
apart_by_word MaterialsLoaded = two_names_and IsId name_fields (names_apart IsId)
apart_by_word MaterialsSpliced = two_names_and IsId name_fields (names_apart IsId)
apart_by_word MaterialsUnloaded = two_names
apart_by_word WorkStarted = two_names
apart_by_word WorkCompleted = two_names
apart_by_word MaterialsInstalled = two_names_and (IsListOf IsDesignator) (list_fields name_fields) (lists_apart IsDesignator name_fields (names_apart IsDesignator))
apart_by_word MaterialsScrapped = two_names_and IsQuantity number_fields (numbers_apart IsQuantity quantities_fit)
apart_by_word CountsTaken = lists_apart IsCountRow count_fields counts_apart
apart_by_word ClockSet = λ a b left right is_a is_b e. (refl, e)

pub commands_apart : (word : Word) → IsPrefixFree (IsSaidBy word) members_of
commands_apart word a b left right is_a is_b e =
    let m = said word a is_a.1 in
    let n = said word b is_b.1 in
    let one = apart_by_word word m.0 n.0 left right (subst IsCommand m.1 is_a.0) (subst IsCommand n.1 is_b.0)
    (sym (ap (λ c. members_of c ++ left) m.1) ∙ e ∙ ap (λ c. members_of c ++ right) n.1) in
    (m.1 ∙ ap (made word) one.0 ∙ sym n.1, one.1)
