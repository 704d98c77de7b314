use Rattle.desk_types.proofs.Common.{◌∙◌, sym}
use Rattle.judging.proofs.EmptyHistory.{no-fronts}
use Rattle.judging.proofs.fronts.fronts.Goals as goal

pub returns-in_default : goal.returns-in_default
returns-in_default g c = λ H stands.
    c.new.ensures ∙ c.new-fronts.ensures.items ∙ sym (no-fronts H c.args.machine.now (sym (c.minute.ensures H stands) ∙ c.in_default.is))
