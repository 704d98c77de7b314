use Rattle.desk_types.proofs.Common.{IfOk-weaker, refl, subst}
use Rattle.desk_file.specs.Found.{FindsAs}
use Rattle.line_commands.proofs.ListsOpened.{refuses}
use Rattle.line_commands.specs.Serving.{ConnectsTo}
use Rattle.line_tables.proofs.Common.{file_state}
use Rattle.sqlite_wal.specs.Files.{image_at}
use Rattle.sqlite_wal.specs.Recovery.{Image}
use Rattle.line_commands.proofs.lists.open_lists.Goals as goal

pub returns-in-Ok-connect_to-clause-opened : goal.returns-in-Ok-connect_to-clause-opened
returns-in-Ok-connect_to-clause-opened g c =
    let conn = c.in-Ok-connect_to.conn in
    let connects : ConnectsTo (image_at g.T.Start) conn = λ clean. (
      c.in-Ok-connect_to.ensures.opened clean,
      subst (λ (i : Image). FindsAs i (file_state conn)) c.in-Ok-open_at.ensures.fresh.held
          (c.in-Ok-connect_to.ensures.found clean),
    ) in
    IfOk-weaker c.lists_of.result _ _ (λ store found. (conn, connects, found)) c.lists_of.ensures.found

pub returns-in-Ok-connect_to-clause-refused : goal.returns-in-Ok-connect_to-clause-refused
returns-in-Ok-connect_to-clause-refused g c =
    let conn = c.in-Ok-connect_to.conn in
    let connects : ConnectsTo (image_at g.T.Start) conn = λ clean. (
      c.in-Ok-connect_to.ensures.opened clean,
      subst (λ (i : Image). FindsAs i (file_state conn)) c.in-Ok-open_at.ensures.fresh.held
          (c.in-Ok-connect_to.ensures.found clean),
    ) in
    refuses (image_at g.T.Start) conn connects c.lists_of.result c.lists_of.ensures.refused

pub returns-in-Err-clause-refused : goal.returns-in-Err-clause-refused
returns-in-Err-clause-refused g c =
    (refl, (c.in-Ok-open_at.files, c.in-Ok-open_at.ensures.fresh, c.in-Err.ensures.unread))
