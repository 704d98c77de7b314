use Rattle.std.proofs.Common.{◌≡◌, ◌∙◌, ◌∷◌, [], List, ℕ, ap, codes, inl, length, map, string_bytes, rules}
use Rattle.chain_files.proofs.ReadWords.{empty-map, no-files, some-map}
use Rattle.chain_files.proofs.words.files_in.Goals as goal

pub returns-then-is_empty-clause-none : goal.returns-then-is_empty-clause-none
returns-then-is_empty-clause-none c is paths =
    let dashes : string_bytes c.in_ok-first.first.now ≡ codes "--" = search rules in
    let none : length c.in_ok-first.rest.now ≡ 0 = search rules in
    let behind : map string_bytes c.in_ok-first.rest.now ≡ [] = empty-map string_bytes c.in_ok-first.rest.now none in
    no-files (map string_bytes c.args.words.now) paths
    (ap (map string_bytes) c.in_ok-first.ensures.cases.0 ∙ ap (λ (word : List ℕ). word ∷ map string_bytes c.in_ok-first.rest.now) dashes
    ∙ ap (λ (ws : List (List ℕ)). codes "--" ∷ ws) behind)

pub returns-then-eq-clause-some : goal.returns-then-eq-clause-some
returns-then-eq-clause-some c =
    let dashes : string_bytes c.in_ok-first.first.now ≡ codes "--" = search rules in (
      some-map string_bytes c.in_ok-first.rest.now (search rules),
      inl
          (ap (map string_bytes) c.in_ok-first.ensures.cases.0
          ∙ ap (λ (word : List ℕ). word ∷ map string_bytes c.in_ok-first.rest.now) dashes),
    )
