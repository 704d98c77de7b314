use Rattle.desk_types.proofs.Common.{[], ◌≡◌, arith, Bool, None, Some, subst}
use Rattle.line_tables.proofs.Common.{file_state, HasCleanDisk, over_files}
use Rattle.desk_file.{proofs.FirstLists.made_begins, proofs.FirstLists.no_table, proofs.RefusedFiles.refused, proofs.RefusedFiles.passed, proofs.RefusedFiles.unfound}
use Rattle.desk_file.{proofs.RefusedFiles.unmade, specs.Refused.IsFaultFor, specs.Refused.IsRefused, specs.Refused.LeavesMade}
use Rattle.line_schema.specs.Stands.{Stands}
use Rattle.sqlite_wal.specs.Files.{image_at}
use Rattle.desk_file.proofs.opening.new_desk.Goals as goal

pub returns-in-Ok-clause-begins : goal.returns-in-Ok-clause-begins
returns-in-Ok-clause-begins g c = λ clean alone.
    let conn = c.in_ok-conn.conn in
    let before : HasCleanDisk (file_state conn) = omega (arith, c.in-Ok.ensures.made.leaves.clean, clean) in
    let opened = c.in_ok-conn.ensures.opened before in
    let begins = made_begins (image_at g.T.Start) (file_state conn) (c.in_ok-conn.ensures.found before) opened.0 opened.1 c.args.greatest c.in-Ok.ensures.made.nameless alone in (
      begins.0,
      subst (λ (own : Bool). Stands over_files g.D.Desk.Stands c.in-Ok.store (record { greatest = c.args.greatest; history = []; own = own }))
          begins.1 c.in-Ok.ensures.made.stands,
    )

pub returns-in-Ok-clause-alone : goal.returns-in-Ok-clause-alone
returns-in-Ok-clause-alone g c = λ clean none trees left.
    let conn = c.in_ok-conn.conn in
    let before : HasCleanDisk (file_state conn) = omega (arith, c.in-Ok.ensures.made.leaves.clean, clean) in
    let opened = c.in_ok-conn.ensures.opened before in
    c.in-Ok.ensures.made.alone clean (no_table (image_at g.T.Start) (file_state conn) (c.in_ok-conn.ensures.found before) opened.0 opened.1 none) trees left

pub returns-in-Err-clause-refused : goal.returns-in-Err-clause-refused
returns-in-Err-clause-refused g c =
    let image = image_at g.T.Start in
    let made = Some c.args.greatest in
    let first = c.in_ok-conn in
    let told = c.in-Err.ensures in
    let stands = unmade image first.conn c.in-Err.conn (LeavesMade made) first.ensures.opened first.ensures.found told.unmade.kept told.unmade.survives c.args.greatest c.in-Err.fault told.unmade.reason in
    refused image first.conn c.in-Err.conn (LeavesMade made) first.ensures.opened first.ensures.found told.unmade.kept told.unmade.survives (IsFaultFor image made) (made ≡ None) c.in-Err.fault stands (λ none. absurd (cc))

pub returns-in_err-conn-clause-refused : goal.returns-in_err-conn-clause-refused
returns-in_err-conn-clause-refused g c =
    let image = image_at g.T.Start in
    let made = Some c.args.greatest in
    let r = c.in_err-conn.field-0.0 in
    passed (IsRefused image (IsFaultFor image made) (LeavesMade made) (made ≡ None)) r c.from_residual.result c.from_residual.ensures.1
    (unfound image (IsFaultFor image made) (LeavesMade made) (made ≡ None) r c.in_err-conn.ensures.err)
