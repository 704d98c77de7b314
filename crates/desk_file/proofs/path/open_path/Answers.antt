use Rattle.desk_types.proofs.Common.{subst}
use Rattle.line_tables.proofs.Common.{file_state}
use Rattle.desk_file.specs.Found.{FindsAs}
use Rattle.desk_file.proofs.path.open_path.Goals as goal

pub returns-in-Ok-connect_to-clause-found : goal.returns-in-Ok-connect_to-clause-found
returns-in-Ok-connect_to-clause-found g c = λ clean.
    let found = c.in-Ok-connect_to.ensures.found clean in
    subst (λ i. FindsAs i (file_state c.in-Ok-connect_to.conn)) c.in-Ok.ensures.fresh.held found
