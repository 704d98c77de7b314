use Rattle.desk_types.proofs.Common.{⊤, arith}
use Rattle.line_tables.proofs.Common.{file_state, HasCleanDisk, LeavesMigrated, One}
use Rattle.desk_file.proofs.{FirstLists.migrates, RefusedFiles.fault_in, RefusedFiles.passed, RefusedFiles.refused, RefusedFiles.unfound}
use Rattle.desk_file.specs.Refused.{IsFaultIn, IsRefused}
use Rattle.sqlite_wal.specs.Files.{image_at}
use Rattle.desk_file.proofs.opening.migrate_desk.Goals as goal

pub returns-in-Ok-clause-migrated : goal.returns-in-Ok-clause-migrated
returns-in-Ok-clause-migrated g c = λ clean alone.
    let conn = c.in_ok-conn.conn in
    let before : HasCleanDisk (file_state conn) = omega (arith, c.migrate.ensures.crash.clean, clean) in
    let opened = c.in_ok-conn.ensures.opened before in
    let m = c.in-Ok.ensures.migrated.migrated clean in
    let told = migrates (image_at g.T.Start) (file_state conn) (c.in_ok-conn.ensures.found before) opened.0 opened.1 (file_state c.migrate.new.conn) m.0 m.1 _ c.in-Ok.ensures.migrated.named m.2 alone in
    (m.0, m.1, told.0, told.1, told.2)

pub returns-in-Err-clause-refused : goal.returns-in-Err-clause-refused
returns-in-Err-clause-refused g c =
    let image = image_at g.T.Start in
    let first = c.in_ok-conn in
    let last = c.migrate.new.conn in
    let told = c.in-Err.ensures in
    let stands = fault_in image first.conn last LeavesMigrated first.ensures.opened first.ensures.found told.unchanged c.migrate.ensures.crash One c.in-Err.fault told.fault.holds told.fault.told in
    refused image first.conn last LeavesMigrated first.ensures.opened first.ensures.found told.unchanged c.migrate.ensures.crash (IsFaultIn image One) ⊤ c.in-Err.fault stands (λ _. told.fault.never)

pub returns-in_err-conn-clause-refused : goal.returns-in_err-conn-clause-refused
returns-in_err-conn-clause-refused g c =
    let image = image_at g.T.Start in
    let r = c.in_err-conn.field-0.0 in
    passed (IsRefused image (IsFaultIn image One) LeavesMigrated ⊤) r c.from_residual-in_err-conn.result c.from_residual-in_err-conn.ensures.1
    (unfound image (IsFaultIn image One) LeavesMigrated ⊤ r c.in_err-conn.ensures.err)
