use Rattle.desk_types.proofs.Common.{◌∙◌, ◌≡◌, inr, List, subst, ℕ}
use Rattle.desk_commands.specs.Told.{TellsLine}
use Rattle.line_reads.specs.Ends.{fault_line}
use Rattle.line_reads.proofs.fault.tell_fault.Goals as goal

pub returns-in-Ok-clause-told : goal.returns-in-Ok-clause-told
returns-in-Ok-clause-told g c =
    let same : c.as_str.result.now ≡ fault_line c.args.fault.now = c.as_str.ensures.value ∙ c.in-Ok.ensures.ok in
    inr (subst (λ (text : List ℕ). TellsLine g.E.Write.contents c.args.errors.now c.tell_line.new.errors text) same
    c.tell_line.ensures)
