use Rattle.desk_types.proofs.Common.{cases_Bool, inl, inr, subst, sym}
use Rattle.line_tables.proofs.Common.{KeepsCommit, state}
use Rattle.line_tables.proofs.Keeps.{keeps_by, keeps_same}
use Rattle.line_tables.proofs.statement.run_counted.Goals as goal

pub returns-clause-within : goal.returns-clause-within
returns-clause-within g c =
    let old = c.args.tx.now.conn.now in
    record {
      same_reference = c.execute.ensures.same_reference;
      kept = λ clean. elim (cases_Bool old.in_transaction) [
        | inl within ↦ keeps_by (state g.S.Store old) (state g.S.Store c.execute.new.self.conn.now) c.execute.result _ _ (c.execute.ensures.runs clean within)
        | inr ended ↦ subst (λ h. KeepsCommit (state g.S.Store old) (state g.S.Store h)) (sym (c.execute.ensures.ended ended).1) (keeps_same (state g.S.Store old))
      ];
      survives = c.execute.ensures.survives;
    }
