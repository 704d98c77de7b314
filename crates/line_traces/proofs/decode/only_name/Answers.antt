use Rattle.desk_types.proofs.Common.{[], ◌∙◌, ◌∷◌, ◌≡◌, ap, IfOk-weaker, length, rules}
use Rattle.line_traces.proofs.Columns.{all-columns}
use Rattle.line_traces.proofs.decode.only_name.Goals as goal

pub returns-clause-ok : goal.returns-clause-ok
returns-clause-ok c =
    let all : length c.args.row.now ≡ 1 = search rules in
    IfOk-weaker c.name.result _ _ (λ id is. all-columns c.args.row.now 1 all ∙ ap (λ v. v ∷ []) is) c.name.ensures.ok
