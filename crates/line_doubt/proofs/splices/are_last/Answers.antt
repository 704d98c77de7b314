use Rattle.desk_types.proofs.Common.{[], ◌∙◌, ap, reverse}
use Rattle.line_doubt.specs.Runs.{close_flags}
use Rattle.line_doubt.proofs.splices.are_last.Goals as goal

pub returns : goal.returns
returns c = λ r are.
    c.reverse-2.ensures.items
    ∙ ap reverse (c.in_ok-found.ensures
    ∙ ap (close_flags c.args.within []) (c.deref.ensures.value ∙ c.reverse.ensures.items
    ∙ ap reverse (c.in_ok-spots.ensures r are)))
