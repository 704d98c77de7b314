use Rattle.std.proofs.Common.{◌≡◌, ◌∙◌, ◌∷◌, List, ℕ, ap, inl, inr, map, refl, string_bytes, subst, sym}
use Rattle.chain_files.specs.declared.words.Chosen.{Chosen}
use Rattle.chain_files.specs.Words.{HasOptions, IsSaid, NameFiles}
use Rattle.chain_files.proofs.ReadWords.{behind-files, dashes-first}
use Rattle.chain_files.proofs.words.named_in.Goals as goal

pub returns-in_err-files-clause-none : goal.returns-in_err-files-clause-none
returns-in_err-files-clause-none c none whose word chosen paths kind has =
    let first = string_bytes c.in_ok-first.first.now in
    let rest = map string_bytes c.in_ok-first.rest.now in
    let words : map string_bytes c.args.words.now ≡ first ∷ rest = ap
    (map string_bytes) c.in_ok-first.ensures.cases.0 in
    elim has [
      | inl (said, plain, others, is, files, options, named) ↦ (
          let same : others ≡ rest = let both : word ∷ others ≡ first ∷ rest = sym is ∙ words in cc in
          let behind = c.options_in.ensures.only chosen files (behind-files files paths named)
          (subst (λ (ws : List (List ℕ)). HasOptions ws chosen files) same options) in
          c.in_err-files.ensures.none refl paths (subst (λ (ws : List (List ℕ)). NameFiles ws paths) behind.1 named))
      | inr (said, some, options) ↦ (
          let found = dashes-first chosen (map string_bytes c.args.words.now)
          (word ∷ paths) rest first options words in
          c.begins_with.ensures.no c.if-begins_with.false (found.0, c.as_str-word.ensures.value ∙ found.1))
    ]

pub returns-in_err-whose-clause-none : goal.returns-in_err-whose-clause-none
returns-in_err-whose-clause-none c none whose word chosen paths kind has =
    let first = string_bytes c.in_ok-first.first.now in
    let rest = map string_bytes c.in_ok-first.rest.now in
    let words : map string_bytes c.args.words.now ≡ first ∷ rest = ap
    (map string_bytes) c.in_ok-first.ensures.cases.0 in
    elim has [
      | inl (said, plain, others, is, files, options, named) ↦ (
          let both : word ∷ others ≡ first ∷ rest = sym is ∙ words in
          let same : others ≡ rest = cc in
          let spelled : word ≡ first = cc in
          let behind = c.options_in.ensures.only chosen files (behind-files files paths named)
          (subst (λ (ws : List (List ℕ)). HasOptions ws chosen files) same options) in
          c.in_err-whose.ensures.none refl whose kind
          (subst (λ (w : List ℕ). IsSaid whose w c.options_in.result.0.part)
          (spelled ∙ sym c.as_str-word.ensures.value)
          (subst (λ (chosen : Chosen). IsSaid whose word chosen.part) behind.0 said)))
      | inr (said, some, options) ↦ (
          let found = dashes-first chosen (map string_bytes c.args.words.now)
          (word ∷ paths) rest first options words in
          c.begins_with.ensures.no c.if-begins_with.false (found.0, c.as_str-word.ensures.value ∙ found.1))
    ]

pub returns-clause-some : goal.returns-clause-some
returns-clause-some c =
    let said = c.in_ok-whose.ensures.some in (
      said.0,
      inl (
        said.1,
        λ found. c.begins_with.ensures.no c.if-begins_with.false found,
        map string_bytes c.in_ok-first.rest.now,
        ap (map string_bytes) c.in_ok-first.ensures.cases.0
            ∙ ap (λ (w : List ℕ). w ∷ map string_bytes c.in_ok-first.rest.now) (sym c.as_str-word.ensures.value),
        map string_bytes c.options_in.result.1.now,
        c.options_in.ensures.words,
        c.in_ok-files.ensures.some,
      ),
    )
