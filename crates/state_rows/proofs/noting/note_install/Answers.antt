use Rattle.desk_types.proofs.Common.{arith, same}
use Rattle.state_rows.{proofs.KeptUnderNames.all-kept, specs.Lists.HasPieces}
use Rattle.state_rows.proofs.noting.note_install.Goals as goal

pub returns-in_ok-keep-clause-pieces : goal.returns-in_ok-keep-clause-pieces
returns-in_ok-keep-clause-pieces c = λ n all.
    all-kept HasPieces _ _ c.args.install (same c.in-MaterialsInstalled.board n) (c.in_ok-keep.ensures n) (omega arith) all
