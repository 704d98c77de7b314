-- The kinds of commands in stored texts.
use Rattle.desk_types.proofs.Common.{[], ◌∙◌, ◌∷◌, ◌≡◌, ap, Bool, cond, false, Field, find, IfSome, List}
use Rattle.desk_types.proofs.Common.{None, Option, refl, same, same-true, Some, subst, sym, true, word_text}
use Rattle.desk_types.proofs.Common.{words}
use Rattle.desk_types.specs.declared.stored_word.Word.{Word}
use Rattle.desk_types.specs.declared.stored_word.Word.TheVariants.{AlternateAllowed, ClockSet, CountsTaken}
use Rattle.desk_types.specs.declared.stored_word.Word.TheVariants.{MaterialsInstalled, MaterialsLoaded}
use Rattle.desk_types.specs.declared.stored_word.Word.TheVariants.{MaterialsScrapped, MaterialsSpliced}
use Rattle.desk_types.specs.declared.stored_word.Word.TheVariants.{MaterialsUnloaded, PartDefined}
use Rattle.desk_types.specs.declared.stored_word.Word.TheVariants.{ProductSelected, ReelBaked, ReelOpened}
use Rattle.desk_types.specs.declared.stored_word.Word.TheVariants.{ReelReceived, ReelSealed, SheetDefined}
use Rattle.desk_types.specs.declared.stored_word.Word.TheVariants.{WorkCompleted, WorkStarted}
use Rattle.std.proofs.Common.{IfNone}

-- The kind with this text.
abbrev pub word_in : Field → Option Word
word_in text = find (λ word. same (word_text word) text) words

pub word_in-word_text : (word : Word) → word_in (word_text word) ≡ Some word
unfolding word_text
word_in-word_text PartDefined = refl
word_in-word_text AlternateAllowed = refl
word_in-word_text SheetDefined = refl
word_in-word_text ProductSelected = refl
word_in-word_text ReelReceived = refl
word_in-word_text ReelOpened = refl
word_in-word_text ReelSealed = refl
word_in-word_text ReelBaked = refl
word_in-word_text MaterialsLoaded = refl
word_in-word_text MaterialsSpliced = refl
word_in-word_text MaterialsUnloaded = refl
word_in-word_text WorkStarted = refl
word_in-word_text WorkCompleted = refl
word_in-word_text MaterialsInstalled = refl
word_in-word_text MaterialsScrapped = refl
word_in-word_text CountsTaken = refl
word_in-word_text ClockSet = refl

pub word_text-apart : (a b : Word) → word_text a ≡ word_text b → a ≡ b
word_text-apart a b e = let found : Some a ≡ Some b = sym (word_in-word_text a) ∙ ap word_in e ∙ word_in-word_text b in cc

pub found_passes : {X : Type 0} (test : X → Bool) (xs : List X) → IfSome (find test xs) (λ x. test x ≡ true)
found_passes test [] = tt
found_passes {X} test (x ∷ xs) =
    elim (test x) as (λ b. test x ≡ b → IfSome (cond b (Some x) (find test xs)) (λ y. test y ≡ true)) [ true ↦ λ is. is | false ↦ λ _. found_passes test xs ] refl

pub word_in-read : (text : Field) (r : Option Word) → r ≡ word_in text → IfSome r (λ word. text ≡ word_text word)
word_in-read text None e = tt
word_in-read text (Some word) e =
    sym (same-true (word_text word) text (subst (λ r. IfSome r (λ w. same (word_text w) text ≡ true)) (sym e) (found_passes (λ w. same (word_text w) text) words)))

pub word_in-refused : (text : Field) (r : Option Word) → r ≡ word_in text → IfNone r ((word : Word) → ¬ (text ≡ word_text word))
word_in-refused text (Some word) e = tt
word_in-refused text None e = λ word is. let found : None ≡ Some word = e ∙ ap word_in is ∙ word_in-word_text word in cc

-- What `Word::read` returns.
pub word_in-is : (text : Field) (r : Option Word) → IfSome r (λ word. text ≡ word_text word) → IfNone r ((word : Word) → ¬ (text ≡ word_text word)) → r ≡ word_in text
word_in-is text (Some word) is _ = sym (ap word_in is ∙ word_in-word_text word)
word_in-is text None _ none =
    elim (word_in text) as (λ found. word_in text ≡ found → None ≡ found) [ None ↦ λ _. refl | Some word ↦ λ e. absurd (none word (word_in-read text (Some word) (sym e))) ] refl
