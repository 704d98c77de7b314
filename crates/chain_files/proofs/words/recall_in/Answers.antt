use Rattle.std.proofs.Common.{◌∷◌, map, refl, string_bytes, subst}
use Rattle.chain_files.specs.declared.words.Kind.{Kind}
use Rattle.chain_files.specs.Words.{Asks, kind_word}
use Rattle.chain_files.proofs.ReadWords.{none-named}
use Rattle.chain_files.proofs.words.recall_in.Goals as goal

pub returns-in-Some : goal.returns-in-Some
returns-in-Some c =
    let rest = map string_bytes c.args.words.now in
    let named = c.in-Some.ensures.some in
    subst (λ (kind : Kind). Asks (kind_word kind ∷ rest) c.recall_of.result) named.0
    (c.recall_of.ensures rest named.1)

pub returns-in-None : goal.returns-in-None
returns-in-None c =
    let rest = map string_bytes c.args.words.now in
    none-named (kind_word c.args.kind ∷ rest) rest c.args.kind refl (c.in-None.ensures.none refl)
