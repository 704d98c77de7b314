use Rattle.desk_types.proofs.Common.{[], ◌∙◌, ◌∷◌, ap, filter}
use Rattle.line_tables.proofs.Common.{accepted_in, has_number, only, Row, state}
use Rattle.chain_stores.proofs.first.take_row.Goals as goal

pub returns-in-Ok-clause-takes : goal.returns-in-Ok-clause-takes
returns-in-Ok-clause-takes g c B stands numbered told =
    let old = state g.S.Store c.args.conn.now in
    let it = c.in-Ok.ensures.ok B stands numbered in record {
      entry = it.0;
      stands = it.2;
      next = it.3.next;
      row = λ clean.
          let found = c.in-Ok-Some.ensures.found clean in record {
            was_open = found.was_open;
            are = λ schema. ap (λ n. filter (has_number n) (accepted_in old.committed)) numbered ∙ found.are schema ∙ ap only c.in-Ok-Some.field-0-is ∙ ap (λ (r : Row). r ∷ []) it.3.same;
          };
    }
