use Rattle.desk_types.proofs.Common.{[], ◌∙◌, ap, IfOk-weaker}
use Rattle.line_doubt.specs.Runs.{close_flags}
use Rattle.line_doubt.proofs.splices.are_first.Goals as goal

pub returns : goal.returns
returns c = λ r are. IfOk-weaker c.are_close.result _ _
    (λ found is. is ∙ ap (close_flags c.args.within []) (c.deref.ensures.value ∙ c.in_ok-spots.ensures r are))
    c.are_close.ensures
