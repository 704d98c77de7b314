use Rattle.desk_types.proofs.Common.{◌∙◌, arith, Bool, None, subst}
use Rattle.line_tables.proofs.Common.{file_state, HasCleanDisk, over_files, Two}
use Rattle.desk_file.proofs.{FirstLists.opened_begins, RefusedFiles.fault_in, RefusedFiles.passed, RefusedFiles.refused, RefusedFiles.unfound}
use Rattle.desk_file.specs.Refused.{IsFaultIn, IsRefused}
use Rattle.line_schema.specs.Stands.{Stands}
use Rattle.sqlite_wal.specs.Files.{image_at}
use Rattle.desk_file.proofs.opening.kept_desk.Goals as goal

pub returns-in-Ok-clause-begins : goal.returns-in-Ok-clause-begins
returns-in-Ok-clause-begins g c = λ clean alone.
    let conn = c.in_ok-conn.conn in
    let before : HasCleanDisk (file_state conn) = omega (arith, c.in-Ok.ensures.opened.1.reads.survives.clean, clean) in
    let opened = c.in_ok-conn.ensures.opened before in
    let L = c.in-Ok.ensures.opened.0 in
    let begins = opened_begins (image_at g.T.Start) (file_state conn) (c.in_ok-conn.ensures.found before) opened.0 opened.1 None L.greatest L.history c.in-Ok.ensures.opened.1.named
    (c.in-Ok.ensures.opened.1.tables clean) alone in (
      L.greatest,
      L.history,
      begins.0,
      subst (λ (own : Bool). Stands over_files g.D.Desk.Stands c.in-Ok.store (record { greatest = L.greatest; history = L.history; own = own }))
          (c.in-Ok.ensures.opened.1.own ∙ begins.1) c.in-Ok.ensures.opened.1.stands,
    )

pub returns-in-Err-clause-refused : goal.returns-in-Err-clause-refused
returns-in-Err-clause-refused g c =
    let image = image_at g.T.Start in
    let first = c.in_ok-conn in
    let told = c.in-Err.ensures in
    let stands = fault_in image first.conn c.in-Err.conn (λ _ _. ⊥) first.ensures.opened first.ensures.found told.refused.kept told.refused.survives Two c.in-Err.fault told.fault.holds told.fault.told in
    refused image first.conn c.in-Err.conn (λ _ _. ⊥) first.ensures.opened first.ensures.found told.refused.kept told.refused.survives (IsFaultIn image Two) ⊥ c.in-Err.fault stands (λ none. absurd none)

pub returns-in_err-conn-clause-refused : goal.returns-in_err-conn-clause-refused
returns-in_err-conn-clause-refused g c =
    let image = image_at g.T.Start in
    let r = c.in_err-conn.field-0.0 in
    passed (IsRefused image (IsFaultIn image Two) (λ _ _. ⊥) ⊥) r c.from_residual.result c.from_residual.ensures.1
    (unfound image (IsFaultIn image Two) (λ _ _. ⊥) ⊥ r c.in_err-conn.ensures.err)
