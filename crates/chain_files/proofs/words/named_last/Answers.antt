use Rattle.std.proofs.Common.{◌≡◌, ◌∙◌, ◌∷◌, List, ℕ, ap, codes, map, string_bytes, subst, sym, rules}
use Rattle.chain_files.specs.Words.{HasOptions}
use Rattle.chain_files.proofs.ReadWords.{some-map}
use Rattle.chain_files.proofs.words.named_last.Goals as goal

pub returns-clause-some : goal.returns-clause-some
returns-clause-some c =
    let dashes : string_bytes c.in_ok-ends.ends.now ≡ codes "--" = search rules in
    let said = c.in_ok-whose.ensures.some in
    let first = c.as_str-word.result.now in
    let files = map string_bytes c.in_ok-first.files.now in
    let behind : map string_bytes c.in_ok-ends.rest.now ≡ first ∷ files = ap
    (map string_bytes) c.in_ok-first.ensures.cases.0
    ∙ ap (λ (w : List ℕ). w ∷ files) (sym c.as_str-word.ensures.value) in
    let words : map string_bytes c.options_in.result.1.now ≡ codes "--" ∷ first ∷ files =
    ap (map string_bytes) c.in_ok-ends.ensures.cases.0
    ∙ ap (λ (word : List ℕ). word ∷ map string_bytes c.in_ok-ends.rest.now) dashes
    ∙ ap (λ (ws : List (List ℕ)). codes "--" ∷ ws) behind in (
      said.0,
      (
        said.1,
        some-map string_bytes c.in_ok-first.files.now (search rules),
        subst (HasOptions (map string_bytes c.args.words.now) c.options_in.result.0) words c.options_in.ensures.words,
      ),
    )
