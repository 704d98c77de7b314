use Rattle.std.proofs.Common.{List, ℕ, refl, subst}
use Rattle.chain_files.specs.Words.{NameFiles}
use Rattle.chain_files.proofs.ReadWords.{behind-files}
use Rattle.chain_files.proofs.words.checked_in.Goals as goal

pub returns-in_err-files-clause-none : goal.returns-in_err-files-clause-none
returns-in_err-files-clause-none c none links paths has =
    let same = c.links_in.ensures.only links has.0 (behind-files has.0 paths has.2) has.1 in
    c.in_err-files.ensures.none refl paths (subst (λ (rest : List (List ℕ)). NameFiles rest paths) same.1 has.2)
