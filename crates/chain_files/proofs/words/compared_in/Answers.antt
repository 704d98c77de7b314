use Rattle.std.proofs.Common.{◌∷◌, [], refl}
use Rattle.chain_files.proofs.words.compared_in.Goals as goal

pub returns-in_err-files-clause-none : goal.returns-in_err-files-clause-none
returns-in_err-files-clause-none c none old new = c.in_err-files.ensures.none refl (old ∷ new ∷ [])
