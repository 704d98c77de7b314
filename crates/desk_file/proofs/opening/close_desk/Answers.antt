use Rattle.desk_types.proofs.Common.{IfErr, IfOk, IfOk-weaker, subst}
use Rattle.line_tables.proofs.Common.{Held}
use Rattle.desk_file.{proofs.ClosedFiles.closes, specs.Files.Copies, specs.Files.Leaves}
use Rattle.sqlite_store.specs.declared.store.FileStore.{FileStore}
use Rattle.desk_file.proofs.opening.close_desk.Goals as goal

pub returns-clause-whole : goal.returns-clause-whole
returns-clause-whole g c =
    let conn = c.into_connection-conn in
    IfOk-weaker c.close_file.result _ _ (λ files kept. closes g.D.Desk.Stands c.args.desk conn.result files conn.ensures kept) c.close_file.ensures.whole

pub returns-clause-copied : goal.returns-clause-copied
returns-clause-copied g c = subst (λ (h : Held (FileStore _ _)). IfOk c.close_file.result (Copies h)) c.into_connection-conn.ensures c.close_file.ensures.copied

pub returns-clause-left : goal.returns-clause-left
returns-clause-left g c = subst (λ (h : Held (FileStore _ _)). IfErr c.close_file.result (λ e. Leaves h e.1)) c.into_connection-conn.ensures c.close_file.ensures.left
