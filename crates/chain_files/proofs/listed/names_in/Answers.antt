use Rattle.desk_types.proofs.Common.{All, All-nil, List, None, Option, Some, [], ap, arith, get_or, inr, length, length-map, map, map-append, refl, rules, subst, sym, take, ℕ, ◌++◌, ◌+◌, ◌<◌, ◌==◌, ◌∙◌, ◌∷◌, ◌≡◌}
use Rattle.std.proofs.Common.{tests}
use Rattle.std.proofs.lemmas.Iterator.Consumers.{YieldsList-end, YieldsList-so_far, YieldsList-turn}
use Rattle.std.proofs.lemmas.Iterator.Splits.{YieldsList-from_slice_split}
use Rattle.std.proofs.lemmas.List.Elements.{All-push}
use Rattle.std.proofs.lemmas.Option.{slice_get-get_or}
use Rattle.std.specs.Iterator.{Yields}
use Rattle.std.proofs.lemmas.Iterator.{YieldsList}
use Rattle.std.specs.List.{slice_get, slice_split}
use Rattle.desk_types.specs.Id.{IsId}
use Rattle.chain_files.proofs.listed.names_in.Goals as goal

-- One more item, and the end, of an iterator whose steps are known first.
next-item : {S A B : Type 0} {steps : S → Option A → S → Type 0} {v : A → B} {s : S} {all : List B}
    (xs : List A) (t : S) → Yields steps s xs t → (r : Option A) (u : S) (x : A) → r ≡ Some x → steps t r u
    → YieldsList steps v s all → (length xs < length all) × (v x ≡ get_or all (length xs) (v x))
next-item xs t y r u x is step lines = YieldsList-turn lines xs t y r u x is step

items-before : {S A B : Type 0} {steps : S → Option A → S → Type 0} {v : A → B} {s : S} {all : List B}
    (xs : List A) (t : S) → Yields steps s xs t → YieldsList steps v s all → map v xs ≡ take (length xs) all
items-before xs t y lines = YieldsList-so_far lines xs t y

no-item : {S A B : Type 0} {steps : S → Option A → S → Type 0} {v : A → B} {s : S} {all : List B}
    (xs : List A) (t : S) → Yields steps s xs t → (r : Option A) (u : S) → r ≡ None → steps t r u
    → YieldsList steps v s all → map v xs ≡ all
no-item xs t y r u is step lines = (YieldsList-end lines xs t y r u is step).0

pub loop-line-init : goal.loop-line-init
loop-line-init c = record {
  lines = c.new-names.ensures.items;
  all = subst (λ names. All IsId names)
      (sym c.new-names.ensures.items) (All-nil IsId);
}

pub loop-line-preserved : goal.loop-line-preserved
loop-line-preserved c =
    let line = c.in-Some.line in
    let name = c.in-Some-read.name in
    let is : name ≡ line.now = c.in-Some-read.ensures.1 in
    let found = c.loop-line.names.items in
    let pushed : c.push.new.self.items ≡ found ++ name ∷ [] = search rules in
    let before = c.loop-line.invariant in
    record {
      lines = pushed ∙ (λ j. before.lines j ++ is j ∷ [])
          ∙ sym (map-append (λ line. line.now) c.loop-line.yielded (line ∷ []));
      all = subst (λ names. All IsId names) (sym pushed)
          (All-push IsId found name before.all (subst IsId (sym is) c.in-Some-read.ensures.0));
    }

pub returns-in-None-read-clause-err : goal.returns-in-None-read-clause-err
returns-in-None-read-clause-err c =
    let text = c.without_feed-text.result.now in
    let lines = slice_split (λ b. b == 10) text in
    let line = c.in-Some.line.now in
    let i = length c.loop-line.yielded in
    let turn = next-item c.loop-line.yielded _ c.loop-line.yielded_by _ _
    c.in-Some.line c.in-Some.is c.next.ensures.steps
    (YieldsList-from_slice_split {s = c.into_iter-line-iterator.result} _ (λ b. b == 10) text
    (search rules) (search rules) (search rules)
    (λ x b q k. search (rules, tests))) in
    let before = items-before c.loop-line.yielded _ c.loop-line.yielded_by
    (YieldsList-from_slice_split {s = c.into_iter-line-iterator.result} _ (λ b. b == 10) text
    (search rules) (search rules) (search rules)
    (λ x b q k. search (rules, tests))) in
    let count : length c.loop-line.names.items ≡ i = ap length c.loop-line.invariant.lines
    ∙ length-map c.loop-line.yielded (λ line. line.now) in
    let n = c.len.result in
    let same : n ≡ i = omega (arith, c.len.ensures, count) in
    let here : slice_get lines n ≡ Some line = ap (slice_get lines) same
    ∙ slice_get-get_or lines i line turn.0 ∙ (λ j. Some (sym turn.1 j)) in
    let taken = c.loop-line.invariant.lines ∙ before ∙ ap (λ k. take k lines) (sym same) in
    let known : All IsId (take n lines) = subst (All IsId) taken c.loop-line.invariant.all in
    let split : List ℕ → List (List ℕ) = slice_split (λ b. b == 10) in
    let unfed = sym c.without_feed-text.ensures in
    inr (
      n + 1,
      refl,
      (
        n,
        refl,
        subst (λ t. All IsId (take n (split t))) c.without_feed-text.ensures known,
        line,
        ap (λ t. slice_get (split t) n) unfed ∙ here,
        c.in-None-read.ensures,
      ),
    )

pub returns-clause-ok : goal.returns-clause-ok
returns-clause-ok c =
    let text = c.without_feed-text.result.now in
    let all = no-item c.loop-line.yielded _ c.loop-line.yielded_by _ _ c.in-None.is c.next.ensures.steps
    (YieldsList-from_slice_split {s = c.into_iter-line-iterator.result} _ (λ b. b == 10) text
    (search rules) (search rules) (search rules)
    (λ x b q k. search (rules, tests))) in (
      c.new.ensures ∙ c.loop-line.invariant.lines ∙ all
          ∙ ap (slice_split (λ b. b == 10)) c.without_feed-text.ensures,
      subst (λ names. All IsId names) (sym c.new.ensures) c.loop-line.invariant.all,
    )
