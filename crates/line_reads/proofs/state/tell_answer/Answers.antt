use Rattle.desk_types.proofs.Common.{◌∙◌, ap, subst, sym}
use Rattle.desk_commands.proofs.EndsOfRuns.{report_follows, report_refused}
use Rattle.line_reads.specs.Ends.{AnswersBy, json_told}
use Rattle.line_reads.proofs.state.tell_answer.Goals as goal

pub returns-in-Ok : goal.returns-in-Ok
returns-in-Ok g c = record {
  ends = report_follows c.tell_json.ensures.ends
      (λ answer is. subst (AnswersBy c.args.line.now c.args.machine.now)
      (sym (is ∙ ap (json_told c.in-Ok.status) c.as_slice-shown.ensures)) c.in-Ok.ensures)
      (λ none. absurd none);
}

pub returns-in-Err : goal.returns-in-Err
returns-in-Err g c = record { ends = report_refused c.unavailable.ensures.status c.unavailable.ensures.told }
