use Rattle.desk_types.proofs.Common.{◌||◌, ◌∙◌, ap, by_name, is_at, is_at-by_name, list_any, same}
use Rattle.desk_types.proofs.Keys.{has-after}
use Rattle.setup_sheets.proofs.parts.Parts.add.Goals as goal

pub returns-clause-has : goal.returns-clause-has
returns-clause-has c = λ p.
    let part = c.args.part in
    has-after (λ k. is_at (by_name k)) same is_at-by_name c.self.inside.names.keys c.insert.new.self.keys part c.in_ok-insert.ensures.updates.0 p
    ∙ ap (λ names. same part p || list_any (same p) names) c.self.view_is
