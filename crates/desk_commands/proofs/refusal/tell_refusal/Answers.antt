use Rattle.desk_types.proofs.Common.{◌∙◌, ◌≡◌, inl, List, subst, ℕ}
use Rattle.desk_commands.specs.{Runs.refusal_line, Told.TellsLine}
use Rattle.desk_commands.proofs.refusal.tell_refusal.Goals as goal

pub returns-in-Ok-clause-told : goal.returns-in-Ok-clause-told
returns-in-Ok-clause-told g c =
    let same : c.as_str.result.now ≡ refusal_line c.args.fault.now = c.as_str.ensures.value ∙ c.in-Ok.ensures.ok in
    inl (subst (λ (text : List ℕ). TellsLine g.E.Write.contents c.args.errors.now c.tell_line.new.errors text) same c.tell_line.ensures)
