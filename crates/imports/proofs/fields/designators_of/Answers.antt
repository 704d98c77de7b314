use Rattle.desk_types.proofs.Common.{[], ◌++◌, ◌==◌, ◌∙◌, ◌∷◌, ◌≡◌, ◌≤◌, ap, arith, false, if◌then◌else◌}
use Rattle.desk_types.proofs.Common.{IsListLength, length, length-slice_split, List, list_all, map-append}
use Rattle.desk_types.proofs.Common.{Name, nat_le, nat_tests, None, Option, refl, rules, Some, SomeIff, sym}
use Rattle.desk_types.proofs.Common.{true, ℕ}
use Rattle.cfx_profile.specs.Forms.{designator_of, is_designator}
use Rattle.desk_types.specs.declared.limits.TheConstants.{LONGEST_LIST}
use Rattle.imports.specs.File.{designators_of, words_of}
use Rattle.std.proofs.lemmas.Iterator.Consumers.{YieldsList-end, YieldsList-turn}
use Rattle.std.proofs.lemmas.Iterator.Splits.{YieldsList-from_str_split}
use Rattle.std.proofs.lemmas.List.Folds.{list_all-append, list_all_at}
use Rattle.imports.proofs.fields.designators_of.Goals as goal

is-from_read : (text d : Name) → designator_of text ≡ Some d → (is_designator text ≡ true) × (d ≡ text)
unfolding designator_of
is-from_read text d =
    elim (is_designator text) as (λ b. (if b then Some text else None) ≡ Some d → (b ≡ true) × (d ≡ text))
    [ true ↦ λ is. (refl, cc) | false ↦ λ is. cc ]

not-from_read : (text : Name) → designator_of text ≡ None → is_designator text ≡ false
unfolding designator_of
not-from_read text =
    elim (is_designator text) as (λ b. (if b then Some text else None) ≡ None → b ≡ false)
    [ true ↦ λ is. cc | false ↦ λ is. refl ]

list_of : (read : Option (List Name)) (text : List ℕ) (found : List Name)
    → found ≡ words_of text → list_all is_designator found ≡ true → SomeIff read (IsListLength (length found)) found → read ≡ designators_of text
unfolding designators_of
list_of (Some xs) text found words all is = let fits = is.0.1 in let same = is.1 in grind (arith, nat_tests)
list_of None text found words all none =
    let count = length-slice_split (λ byte. byte == 0x20) text in
    let some : 1 ≤ length found = omega (arith, ap length words, count) in
    elim (nat_le (length found) LONGEST_LIST) as (λ b. nat_le (length found) LONGEST_LIST ≡ b → None ≡ designators_of text)
    [ true ↦ λ fits. absurd (none (some, grind (arith, nat_tests))) | false ↦ λ long. rw (sym words, all, long) refl ] refl

pub loop-word-preserved : goal.loop-word-preserved
loop-word-preserved c =
    let word = c.in-Some.word in
    let read : designator_of word.now ≡ Some c.in-Some-designator_of.designator = search rules in
    let is = is-from_read _ _ read in
    let found = c.loop-word.found.items in
    let pushed : c.push.new.self.items ≡ found ++ c.in-Some-designator_of.designator ∷ [] = search rules in
    let before = c.loop-word.invariant in
    record {
      words = rw (map-append (λ word. word.now) c.loop-word.yielded (word ∷ []), pushed, before.words, is.1) refl;
      designators = rw (pushed, list_all-append is_designator found (c.in-Some-designator_of.designator ∷ []), before.designators, is.1, is.0) refl;
    }

pub returns-in-None-designator_of : goal.returns-in-None-designator_of
unfolding designators_of
returns-in-None-designator_of c =
    let words = words_of c.args.text.now in
    let turn = YieldsList-turn (YieldsList-from_str_split 32 c.args.text.now (omega arith) (cc) (cc) (cc)) c.loop-word.yielded _ c.loop-word.yielded_by _ _ c.in-Some.word c.in-Some.is c.next.ensures.steps in
    let read : designator_of c.in-Some.word.now ≡ None = search rules in
    let one = list_all_at is_designator words (length c.loop-word.yielded) c.in-Some.word.now turn.0 (ap is_designator (sym turn.1) ∙ not-from_read _ read) in
    rw one refl

pub returns : goal.returns
returns c =
    let all = YieldsList-end (YieldsList-from_str_split 32 c.args.text.now (omega arith) (cc) (cc) (cc)) c.loop-word.yielded _ c.loop-word.yielded_by _ _ c.in-None.is c.next.ensures.steps in
    list_of c.new.result c.args.text.now c.loop-word.found.items (c.loop-word.invariant.words ∙ all.0) c.loop-word.invariant.designators c.new.ensures
