use Rattle.desk_types.proofs.Common.{◌||◌, ◌∙◌, ap, by_pair, is_at, is_at-by_pair, list_any, Name, same_pair}
use Rattle.desk_types.proofs.Keys.{has-after}
use Rattle.setup_sheets.proofs.alternates.Alternates.add.Goals as goal

pub returns-clause-has : goal.returns-clause-has
returns-clause-has c = λ p q.
    let pair : Name × Name = (c.args.part, c.args.alternate) in
    has-after (λ k. is_at (by_pair k)) same_pair is_at-by_pair c.self.inside.pairs.keys c.insert.new.self.keys pair c.in_ok-insert.ensures.updates.0 (p, q)
    ∙ ap (λ pairs. same_pair pair (p, q) || list_any (same_pair (p, q)) pairs) c.self.view_is
