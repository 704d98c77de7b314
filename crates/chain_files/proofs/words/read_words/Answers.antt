use Rattle.std.proofs.Common.{◌≡◌, ◌∙◌, ◌∷◌, ℕ, List, ap, codes, map, refl, string_bytes, subst, sym}
use Rattle.chain_files.specs.Words.{Asks}
use Rattle.chain_files.proofs.ReadWords.{none-checked, none-compared}
use Rattle.chain_files.proofs.words.read_words.Goals as goal

pub returns-in-Some-checked_in : goal.returns-in-Some-checked_in
returns-in-Some-checked_in c =
    let rest = map string_bytes c.in-Some.rest.now in
    let verb : string_bytes c.in-Some.verb.now ≡ codes "check" = sym c.as_str.ensures.value ∙ c.in-check.is in
    let words : map string_bytes c.args.words.now ≡ codes "check" ∷ rest =
    ap (map string_bytes) c.in-Some.ensures.cases.0 ∙ ap (λ (word : List ℕ). word ∷ rest) verb in
    (refl, rest, words, c.in-Some-checked_in.ensures.some)

pub returns-in-None : goal.returns-in-None
returns-in-None c =
    let rest = map string_bytes c.in-Some.rest.now in
    let verb : string_bytes c.in-Some.verb.now ≡ codes "check" = sym c.as_str.ensures.value ∙ c.in-check.is in
    let words : map string_bytes c.args.words.now ≡ codes "check" ∷ rest =
    ap (map string_bytes) c.in-Some.ensures.cases.0 ∙ ap (λ (word : List ℕ). word ∷ rest) verb in
    none-checked (map string_bytes c.args.words.now) rest words (c.in-None.ensures.none refl)

pub returns-in-lot : goal.returns-in-lot
returns-in-lot c =
    let rest = map string_bytes c.in-Some.rest.now in
    let verb : string_bytes c.in-Some.verb.now ≡ codes "lot" = sym c.as_str.ensures.value ∙ c.in-lot.is in
    let words : map string_bytes c.args.words.now ≡ codes "lot" ∷ rest =
    ap (map string_bytes) c.in-Some.ensures.cases.0 ∙ ap (λ (word : List ℕ). word ∷ rest) verb in
    subst (λ (ws : List (List ℕ)). Asks ws c.recall_in.result) (sym words) c.recall_in.ensures

pub returns-in-board : goal.returns-in-board
returns-in-board c =
    let rest = map string_bytes c.in-Some.rest.now in
    let verb : string_bytes c.in-Some.verb.now ≡ codes "board" = sym c.as_str.ensures.value ∙ c.in-board.is in
    let words : map string_bytes c.args.words.now ≡ codes "board" ∷ rest =
    ap (map string_bytes) c.in-Some.ensures.cases.0 ∙ ap (λ (word : List ℕ). word ∷ rest) verb in
    subst (λ (ws : List (List ℕ)). Asks ws c.recall_in-in-board.result) (sym words) c.recall_in-in-board.ensures

pub returns-in-reel : goal.returns-in-reel
returns-in-reel c =
    let rest = map string_bytes c.in-Some.rest.now in
    let verb : string_bytes c.in-Some.verb.now ≡ codes "reel" = sym c.as_str.ensures.value ∙ c.in-reel.is in
    let words : map string_bytes c.args.words.now ≡ codes "reel" ∷ rest =
    ap (map string_bytes) c.in-Some.ensures.cases.0 ∙ ap (λ (word : List ℕ). word ∷ rest) verb in
    subst (λ (ws : List (List ℕ)). Asks ws c.recall_in-in-reel.result) (sym words) c.recall_in-in-reel.ensures

pub returns-in-reels : goal.returns-in-reels
returns-in-reels c =
    let rest = map string_bytes c.in-Some.rest.now in
    let verb : string_bytes c.in-Some.verb.now ≡ codes "reels" = sym c.as_str.ensures.value ∙ c.in-reels.is in
    let words : map string_bytes c.args.words.now ≡ codes "reels" ∷ rest =
    ap (map string_bytes) c.in-Some.ensures.cases.0 ∙ ap (λ (word : List ℕ). word ∷ rest) verb in
    subst (λ (ws : List (List ℕ)). Asks ws c.recall_in-in-reels.result) (sym words) c.recall_in-in-reels.ensures

pub returns-in-None-compared_in : goal.returns-in-None-compared_in
returns-in-None-compared_in c =
    let rest = map string_bytes c.in-Some.rest.now in
    let verb : string_bytes c.in-Some.verb.now ≡ codes "alike" = sym c.as_str.ensures.value ∙ c.in-alike.is in
    let words : map string_bytes c.args.words.now ≡ codes "alike" ∷ rest =
    ap (map string_bytes) c.in-Some.ensures.cases.0 ∙ ap (λ (word : List ℕ). word ∷ rest) verb in
    none-compared (map string_bytes c.args.words.now) rest words (c.in-None-compared_in.ensures.none refl)

pub returns-in-text : goal.returns-in-text
returns-in-text c =
    let rest = map string_bytes c.in-Some.rest.now in
    let verb : string_bytes c.in-Some.verb.now ≡ codes "--help" = sym c.as_str.ensures.value ∙ c.in-text.is in
    let words : map string_bytes c.args.words.now ≡ codes "--help" ∷ rest =
    ap (map string_bytes) c.in-Some.ensures.cases.0 ∙ ap (λ (word : List ℕ). word ∷ rest) verb in
    (rest, words)

pub returns-in-text-2 : goal.returns-in-text-2
returns-in-text-2 c =
    let rest = map string_bytes c.in-Some.rest.now in
    let verb : string_bytes c.in-Some.verb.now ≡ codes "--version" = sym c.as_str.ensures.value ∙ c.in-text-2.is in
    let words : map string_bytes c.args.words.now ≡ codes "--version" ∷ rest =
    ap (map string_bytes) c.in-Some.ensures.cases.0 ∙ ap (λ (word : List ℕ). word ∷ rest) verb in
    (rest, words)
