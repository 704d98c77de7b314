use Rattle.desk_types.proofs.Common.{◌∙◌, ap}
use Rattle.line_tables.proofs.Common.{Database, file_state}
use Rattle.desk_file.proofs.Truth.{finds_none, stays_clean}
use Rattle.desk_file.proofs.memory.open.Goals as goal

pub returns-in-Ok : goal.returns-in-Ok
returns-in-Ok c =
    let clean = stays_clean c.in-Ok.conn in
    let opened = c.in-Ok.ensures.opened clean in
    let found = c.in-Ok.ensures.found clean in
    let sound = (opened.1 opened.0.is_open).1 in
    let none = finds_none _ (file_state c.in-Ok.conn).committed sound (rw c.new-2.ensures.empty at found.reads) in
    record {
      empty = (opened.0, opened.1, ap (λ (db : Database). db.schema) opened.0.clean ∙ none);
      mode = c.in-Ok.ensures.fresh.autocommit;
    }
