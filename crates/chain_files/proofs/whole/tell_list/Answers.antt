use Rattle.desk_types.proofs.Common.{◌∙◌, inl, List, subst, ℕ}
use Rattle.desk_commands.specs.Told.{TellsLine}
use Rattle.chain_files.proofs.whole.tell_list.Goals as goal

pub returns-in-Ok-clause-told : goal.returns-in-Ok-clause-told
returns-in-Ok-clause-told g c =
    inl (subst (λ (text : List ℕ). TellsLine g.E.Write.contents c.args.errors.now c.tell_line.new.errors text)
    (c.as_str.ensures.value ∙ c.in-Ok.ensures.ok) c.tell_line.ensures)
