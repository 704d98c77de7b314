use Rattle.desk_types.proofs.Common.{◌∙◌}
use Rattle.chain_files.proofs.whole.send_answer.Goals as goal

pub returns-in-Ok-send-clause-done : goal.returns-in-Ok-send-clause-done
returns-in-Ok-send-clause-done g c zero = (c.as_slice.result.now, c.in-Ok-send.ensures.ok, λ all written. c.as_slice.ensures ∙ c.in-Ok.ensures all written, c.tell_links.ensures)

pub returns-clause-failed : goal.returns-clause-failed
returns-clause-failed g c four = (
  c.as_slice.result.now,
  c.in-Err.ensures.front,
  λ all written. c.as_slice.ensures ∙ c.in-Ok.ensures all written,
  (c.in-Err.ensures.failed, c.tell_line.ensures),
)
