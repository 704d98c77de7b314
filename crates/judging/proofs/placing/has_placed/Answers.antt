use Rattle.desk_types.proofs.Common.{◌∙◌}
use Rattle.judging.proofs.SortedSearch.{found-or-not}
use Rattle.judging.proofs.placing.has_placed.Goals as goal

pub returns-in-Some : goal.returns-in-Some
returns-in-Some g c = λ H stands.
    let designator = c.args.designator.now in
    let known = rw c.in-Some.is at (c.requires H stands) in
    c.is_ok.ensures.value
    ∙ found-or-not c.in-Some.names.now designator c.binary_search.result known.0 c.binary_search.ensures.bound c.binary_search.ensures.position
    ∙ known.1 designator
