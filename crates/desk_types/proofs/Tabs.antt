-- A command's fields have no tabs, so splitting its text gives them back.
use Rattle.desk_types.proofs.Common.{[], ◌++◌, ◌<◌, ◌==◌, ◌^◌, ◌∙◌, ◌∷◌, ◌≡◌, ◌≤◌, All, AllByRecursion}
use Rattle.desk_types.proofs.Common.{AllPass-from_list_all, ap, append-nil, arith, count_fields, decimal}
use Rattle.desk_types.proofs.Common.{drop, false, Field, fields_in, fields_of, IsCommand, IsCountRow}
use Rattle.desk_types.proofs.Common.{IsDesignator, IsId, IsListOf, IsSheetRow, join_with_byte, length, List}
use Rattle.desk_types.proofs.Common.{list_all, list_fields, members_of, name_fields, nat_tests, not}
use Rattle.desk_types.proofs.Common.{quantities_fit, recursion_from_All, refl, row_fields, slice_split_at}
use Rattle.desk_types.proofs.Common.{slice_split_none, stored_text, sym, true, word_text, ℕ}
use Rattle.desk_types.proofs.Ascii.{printable-marks}
use Rattle.desk_types.proofs.Members.{commands_apart, fields_are, label_fits, word_of}
use Rattle.desk_types.specs.Apart.{counted_quantities_fit, lengths_fit}
use Rattle.desk_types.specs.Fields.{after_tabs, fields_text}
use Rattle.desk_types.specs.Level.{text_of}
use Rattle.desk_types.specs.declared.command.Command.{Command}
use Rattle.desk_types.specs.declared.command.Command.TheVariants.{AlternateAllowed, ClockSet, CountsTaken}
use Rattle.desk_types.specs.declared.command.Command.TheVariants.{MaterialsInstalled, MaterialsLoaded}
use Rattle.desk_types.specs.declared.command.Command.TheVariants.{MaterialsScrapped, MaterialsSpliced}
use Rattle.desk_types.specs.declared.command.Command.TheVariants.{MaterialsUnloaded, PartDefined}
use Rattle.desk_types.specs.declared.command.Command.TheVariants.{ProductSelected, ReelBaked, ReelOpened}
use Rattle.desk_types.specs.declared.command.Command.TheVariants.{ReelReceived, ReelSealed, SheetDefined}
use Rattle.desk_types.specs.declared.command.Command.TheVariants.{WorkCompleted, WorkStarted}
use Rattle.desk_types.specs.declared.count.CountRow.{CountRow}
use Rattle.desk_types.specs.declared.level.Level.{Level}
use Rattle.desk_types.specs.declared.level.Level.TheVariants.{Five, FiveA, Four, One, Six, Three, Two, TwoA}
use Rattle.desk_types.specs.declared.sheet.SheetRow.{SheetRow}
use Rattle.desk_types.specs.declared.stored_word.Word.{Word}
use Rattle.std.proofs.Common.{flat_map}
use Rattle.std.proofs.lemmas.Fmt.{decimal_is_IsNumeral}
use Rattle.std.proofs.lemmas.List.Elements.{All-from_get_or}
use Rattle.std.proofs.lemmas.List.Splits.{join_with_byte-slice_split}
use Rattle.std.proofs.lemmas.Str.Parse.{digit_at}
use Rattle.desk_types.specs.declared.stored_word.Word.TheVariants as word

abbrev HasNoTab : Field → Type 0
HasNoTab field = All (λ byte. (byte == 0x09) ≡ false) field

abbrev HaveNoTab : List Field → Type 0
HaveNoTab fields = AllByRecursion HasNoTab fields

cut_again : (field : Field) (fields : List Field) → HaveNoTab (field ∷ fields) → fields_in (join_with_byte 0x09 (field ∷ fields)) ≡ field ∷ fields
cut_again field [] none = slice_split_none (λ byte. byte == 0x09) field none.0
cut_again field (next ∷ fields) none =
    slice_split_at (λ byte. byte == 0x09) field 0x09 (join_with_byte 0x09 (next ∷ fields)) none.0 refl ∙ ap (λ rest. field ∷ rest) (cut_again next fields none.1)

no_tab_printable : (field : Field) → All (λ b. (0x20 ≤ b) × (b ≤ 0x7e)) field → HasNoTab field
no_tab_printable field printable = λ k d inside. let is = printable k d inside in grind (arith, nat_tests)

no_tab_name : (name : Field) → IsId name → HasNoTab name
no_tab_name name is = no_tab_printable name is.printable

no_tab_designator : (name : Field) → IsDesignator name → HasNoTab name
no_tab_designator name is = no_tab_printable name (printable-marks name is.marks)

no_tab_number : (n : ℕ) → n < 2 ^ 64 → HasNoTab (decimal n)
no_tab_number n fits = All-from_get_or (λ byte. (byte == 0x09) ≡ false) (decimal n) 0 (λ i inside.
    let is = digit_at (decimal n) i (decimal_is_IsNumeral n fits).0.1 inside in grind (arith, nat_tests))

no_tab_by_test : (field : Field) → list_all (λ byte. not (byte == 0x09)) field ≡ true → HasNoTab field
no_tab_by_test field is = λ k d inside. let at = AllPass-from_list_all (λ byte. not (byte == 0x09)) field is k d inside in grind (arith, nat_tests)

no_tab_level : (level : Level) → HasNoTab (text_of level)
no_tab_level One = no_tab_by_test (text_of One) refl
no_tab_level Two = no_tab_by_test (text_of Two) refl
no_tab_level TwoA = no_tab_by_test (text_of TwoA) refl
no_tab_level Three = no_tab_by_test (text_of Three) refl
no_tab_level Four = no_tab_by_test (text_of Four) refl
no_tab_level Five = no_tab_by_test (text_of Five) refl
no_tab_level FiveA = no_tab_by_test (text_of FiveA) refl
no_tab_level Six = no_tab_by_test (text_of Six) refl

no_tab_word : (w : Word) → HasNoTab (word_text w)
unfolding word_text
no_tab_word word.PartDefined = no_tab_by_test (word_text word.PartDefined) refl
no_tab_word word.AlternateAllowed = no_tab_by_test (word_text word.AlternateAllowed) refl
no_tab_word word.SheetDefined = no_tab_by_test (word_text word.SheetDefined) refl
no_tab_word word.ProductSelected = no_tab_by_test (word_text word.ProductSelected) refl
no_tab_word word.ReelReceived = no_tab_by_test (word_text word.ReelReceived) refl
no_tab_word word.ReelOpened = no_tab_by_test (word_text word.ReelOpened) refl
no_tab_word word.ReelSealed = no_tab_by_test (word_text word.ReelSealed) refl
no_tab_word word.ReelBaked = no_tab_by_test (word_text word.ReelBaked) refl
no_tab_word word.MaterialsLoaded = no_tab_by_test (word_text word.MaterialsLoaded) refl
no_tab_word word.MaterialsSpliced = no_tab_by_test (word_text word.MaterialsSpliced) refl
no_tab_word word.MaterialsUnloaded = no_tab_by_test (word_text word.MaterialsUnloaded) refl
no_tab_word word.WorkStarted = no_tab_by_test (word_text word.WorkStarted) refl
no_tab_word word.WorkCompleted = no_tab_by_test (word_text word.WorkCompleted) refl
no_tab_word word.MaterialsInstalled = no_tab_by_test (word_text word.MaterialsInstalled) refl
no_tab_word word.MaterialsScrapped = no_tab_by_test (word_text word.MaterialsScrapped) refl
no_tab_word word.CountsTaken = no_tab_by_test (word_text word.CountsTaken) refl
no_tab_word word.ClockSet = no_tab_by_test (word_text word.ClockSet) refl

no_tab_both : (xs ys : List Field) → HaveNoTab xs → HaveNoTab ys → HaveNoTab (xs ++ ys)
no_tab_both [] ys first second = second
no_tab_both (x ∷ xs) ys first second = (first.0, no_tab_both xs ys first.1 second)

no_tab_each : {X : Type 0} (Is : X → Type 0) (spelling : X → List Field) → ((x : X) → Is x → HaveNoTab (spelling x)) → (xs : List X) → AllByRecursion Is xs → HaveNoTab (flat_map spelling xs)
no_tab_each Is spelling none [] is = tt
no_tab_each Is spelling none (x ∷ xs) is = no_tab_both (spelling x) (flat_map spelling xs) (none x is.0) (no_tab_each Is spelling none xs is.1)

no_tab_list : {X : Type 0} (Is : X → Type 0) (spelling : X → List Field) → ((x : X) → Is x → HaveNoTab (spelling x)) → (xs : List X) → IsListOf Is xs → HaveNoTab (list_fields spelling xs)
no_tab_list Is spelling none xs is = (no_tab_number (length xs) (lengths_fit (length xs) is.count), no_tab_each Is spelling none xs (recursion_from_All Is xs is.each))

no_tab_designators : (xs : List Field) → IsListOf IsDesignator xs → HaveNoTab (list_fields name_fields xs)
no_tab_designators = no_tab_list IsDesignator name_fields (λ name is. (no_tab_designator name is, tt))

no_tab_row : (row : SheetRow) → IsSheetRow row → HaveNoTab (row_fields row)
no_tab_row row is = (no_tab_name row.slot is.slot, (no_tab_name row.part is.part, no_tab_designators row.designators is.designators))

no_tab_count : (row : CountRow) → IsCountRow row → HaveNoTab (count_fields row)
no_tab_count row is = (no_tab_name row.reel is.reel, (no_tab_number row.quantity (counted_quantities_fit row.quantity is.quantity), tt))

no_tab : (c : Command) → IsCommand c → HaveNoTab (fields_of c)
no_tab (PartDefined part) is = (no_tab_word word.PartDefined, (no_tab_name part is, tt))
no_tab (AlternateAllowed part alternate) is = (no_tab_word word.AlternateAllowed, (no_tab_name part is.0, (no_tab_name alternate is.1, tt)))
no_tab (SheetDefined product machine rows) is = (no_tab_word word.SheetDefined, (no_tab_name product is.0, (no_tab_name machine is.1, no_tab_list IsSheetRow row_fields no_tab_row rows is.2)))
no_tab (ProductSelected machine product) is = (no_tab_word word.ProductSelected, (no_tab_name machine is.0, (no_tab_name product is.1, tt)))
no_tab (ReelReceived reel part lot moisture quantity) is = (no_tab_word word.ReelReceived, (no_tab_name reel is.0, (no_tab_name part is.1, (no_tab_name lot is.2, (no_tab_level moisture.level, (no_tab_number quantity (quantities_fit quantity is.4), (no_tab_number moisture.label (label_fits moisture.level moisture.label is.3), tt)))))))
no_tab (ReelOpened reel) is = (no_tab_word word.ReelOpened, (no_tab_name reel is, tt))
no_tab (ReelSealed reel) is = (no_tab_word word.ReelSealed, (no_tab_name reel is, tt))
no_tab (ReelBaked reel) is = (no_tab_word word.ReelBaked, (no_tab_name reel is, tt))
no_tab (MaterialsLoaded machine slot reel) is = (no_tab_word word.MaterialsLoaded, (no_tab_name machine is.0, (no_tab_name slot is.1, (no_tab_name reel is.2, tt))))
no_tab (MaterialsSpliced machine slot reel) is = (no_tab_word word.MaterialsSpliced, (no_tab_name machine is.0, (no_tab_name slot is.1, (no_tab_name reel is.2, tt))))
no_tab (MaterialsUnloaded machine slot) is = (no_tab_word word.MaterialsUnloaded, (no_tab_name machine is.0, (no_tab_name slot is.1, tt)))
no_tab (WorkStarted machine board) is = (no_tab_word word.WorkStarted, (no_tab_name machine is.0, (no_tab_name board is.1, tt)))
no_tab (WorkCompleted machine board) is = (no_tab_word word.WorkCompleted, (no_tab_name machine is.0, (no_tab_name board is.1, tt)))
no_tab (MaterialsInstalled machine board designators) is = (no_tab_word word.MaterialsInstalled, (no_tab_name machine is.0, (no_tab_name board is.1, no_tab_designators designators is.2)))
no_tab (MaterialsScrapped machine slot quantity) is = (no_tab_word word.MaterialsScrapped, (no_tab_name machine is.0, (no_tab_name slot is.1, (no_tab_number quantity (quantities_fit quantity is.2), tt))))
no_tab (CountsTaken counts) is = (no_tab_word word.CountsTaken, no_tab_list IsCountRow count_fields no_tab_count counts is)
no_tab ClockSet is = (no_tab_word word.ClockSet, tt)

pub fields_in-stored_text : (c : Command) → IsCommand c → fields_in (stored_text c) ≡ fields_of c
unfolding stored_text
fields_in-stored_text c is = by (fields_of c) (word_text (word_of c)) (members_of c) (fields_are c) (no_tab c is)
  where
    by : (all : List Field) (field : Field) (fields : List Field) → all ≡ field ∷ fields → HaveNoTab all → fields_in (join_with_byte 0x09 all) ≡ all
    by [] field fields e none = absurd cc
    by (x ∷ xs) field fields e none = cut_again x xs none

pub stored_text-fields_in : (c : Command) (text : List ℕ) → fields_in text ≡ fields_of c → text ≡ stored_text c
unfolding stored_text
stored_text-fields_in c text e = sym (join_with_byte-slice_split 0x09 text) ∙ ap (join_with_byte 0x09) e

pub stored_text-fields_text : (c : Command) → stored_text c ≡ fields_text (fields_of c)
unfolding stored_text
stored_text-fields_text c = by (fields_of c)
  where
    behind : (field : Field) (fields : List Field) → join_with_byte 0x09 (field ∷ fields) ≡ field ++ after_tabs fields
    behind field [] = sym (append-nil field)
    behind field (next ∷ fields) = ap (λ rest. field ++ 0x09 ∷ rest) (behind next fields)

    by : (fields : List Field) → join_with_byte 0x09 fields ≡ fields_text fields
    by [] = refl
    by (field ∷ fields) = behind field fields

pub texts_apart : (a b : Command) → IsCommand a → IsCommand b → stored_text a ≡ stored_text b → a ≡ b
texts_apart a b is_a is_b e =
    let fields : fields_of a ≡ fields_of b = sym (fields_in-stored_text a is_a) ∙ ap fields_in e ∙ fields_in-stored_text b is_b in
    let here = fields_are a in
    let there = fields_are b in
    let said_b : fields_of b ≡ word_text (word_of a) ∷ members_of b = cc in
    let members : members_of a ++ [] ≡ members_of b ++ [] = ap (λ all. drop 1 all ++ []) fields in
    (commands_apart (word_of a) a b [] [] (is_a, here) (is_b, said_b) members).0
