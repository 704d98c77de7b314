-- Files without a database.
use Rattle.desk_types.proofs.Common.{◌≤◌, arith}
use Rattle.line_tables.proofs.Common.{HoldsDatabase, Trees}
use Rattle.desk_file.specs.Found.{IsNew}
use Rattle.sqlite_pool.{proofs.ProbeLemmas.not_blank, specs.Stored.reserved}
use Rattle.sqlite_wal.specs.Recovery.{Image}

pub new_holds_none : (image : Image) (trees : Trees) → IsNew image → ¬ HoldsDatabase image trees
new_holds_none image trees new held =
    let few : reserved held.0 ≤ 8 = grind arith in
    let large : 504 ≤ held.0 = omega (arith, held.1.0) in
    not_blank held.0 image held.2.pages held.2.found large held.2.ours.file.sound _ (omega arith) new
