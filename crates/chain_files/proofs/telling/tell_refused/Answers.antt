use Rattle.desk_types.proofs.Common.{◌∙◌, ◌≡◌, inl, List, subst, ℕ}
use Rattle.chain_files.specs.Compared.{refused_line}
use Rattle.desk_commands.specs.Told.{TellsLine}
use Rattle.chain_files.proofs.telling.tell_refused.Goals as goal

pub returns-in-Ok-clause-told : goal.returns-in-Ok-clause-told
returns-in-Ok-clause-told g c =
    let same : c.as_str.result.now ≡ refused_line c.args.found.now = c.as_str.ensures.value ∙ c.in-Ok.ensures.ok in
    inl (subst (λ (text : List ℕ). TellsLine g.E.Write.contents c.args.errors.now c.tell_line.new.errors text) same c.tell_line.ensures)
