use Rattle.desk_types.proofs.Common.{◌∙◌, ap, basis, refl, subst, sym}
use Rattle.desk_laws.proofs.Common.{Two}
use Rattle.feeder_state.{proofs.AcceptedChanges.none-accepted, specs.State.Represents}
use Rattle.state_rows.specs.Kept.{tables_in, unnumbered}
use Rattle.feeder_state.proofs.desk.StateDesk.restore.Goals as goal

pub returns-in_default : goal.returns-in_default
returns-in_default c = λ H rows minute. subst (λ G. Represents c.new.result (basis Two G)) (none-accepted H (sym minute ∙ c.in_default.is)) c.new.ensures

pub returns : goal.returns
returns c = λ H rows minute. record {
  rules = refl;
  state = record {
    judged = rows.judged;
    minute = minute;
    rows = ap (λ kept. unnumbered (tables_in kept)) c.in_ok-copy.ensures.cases ∙ ap unnumbered rows.tables;
    setup = c.in_ok-setup.ensures H rows;
    floor = c.in_ok-floor.ensures H rows;
    work = c.in_ok-work.ensures H rows;
  };
}
