use Rattle.std.proofs.Common.{◌≡◌, ◌∙◌, ◌+◌, ◌<◌, ◌∷◌, [], ℕ, List, ap, drop, drop-cons, length, map, string_bytes, get_or, subst, sym, arith, add-one, suc}
use Rattle.std.proofs.lemmas.List.{get_or-map}
use Rattle.desk_types.proofs.Common.{length-map}
use Rattle.chain_files.specs.Words.{ArePlain}
use Rattle.chain_files.proofs.words.are_plain.Goals as goal

-- The words from a place on.
from-place : {X : Type 0} (f : X → List ℕ) (xs : List X) (i : ℕ) (x : X) → i < length xs → x ≡ get_or xs i x
    → drop i (map f xs) ≡ f x ∷ drop (i + 1) (map f xs)
from-place f xs i x low is =
    let long : i < length (map f xs) = omega (arith, length-map xs f, low) in
    let here : get_or (map f xs) i [] ≡ f x = get_or-map f xs i x [] low ∙ ap f (sym is) in
    rw (add-one, drop-cons (map f xs) i []) (ap (λ y. y ∷ drop (suc i) (map f xs)) here)

pub returns-then-begins_with-clause-no : goal.returns-then-begins_with-clause-no
returns-then-begins_with-clause-no c is all =
    let ws = map string_bytes c.args.words.now in
    let here = from-place string_bytes c.args.words.now c.loop-word.word-index c.word-item.result c.loop-word-test.true c.word-item.is in
    let rest : ArePlain (string_bytes c.word-item.result ∷ drop (c.loop-word.word-index + 1) ws) = subst ArePlain here (c.loop-word.invariant.rest all) in
    let found = c.begins_with.ensures.yes c.if-begins_with.true in
    rest.0 (found.0, sym c.as_str.ensures.value ∙ found.1)

pub loop-word-preserved : goal.loop-word-preserved
loop-word-preserved c =
    let ws = map string_bytes c.args.words.now in
    let next = drop (c.loop-word.word-index + 1) ws in
    let word = string_bytes c.word-item.result in
    let here = from-place string_bytes c.args.words.now c.loop-word.word-index c.word-item.result c.loop-word-test.true c.word-item.is in
    record {
      rest = λ all. let rest : ArePlain (word ∷ next) = subst ArePlain here (c.loop-word.invariant.rest all) in rest.1;
      all = λ rest. c.loop-word.invariant.all (subst ArePlain (sym here) (λ found. c.begins_with.ensures.no c.if-begins_with.false (found.0, c.as_str.ensures.value ∙ found.1), rest));
    }
