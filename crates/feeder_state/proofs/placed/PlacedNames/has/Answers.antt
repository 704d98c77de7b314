use Rattle.desk_types.proofs.Common.{◌∙◌, ap, by_name, length, list_any, same, subst}
use Rattle.judging.proofs.SortedSearch.{found-or-not}
use Rattle.std.specs.List.Sorted.{IsBinarySearchResult, IsSearchInRange}
use Rattle.feeder_state.proofs.placed.PlacedNames.has.Goals as goal

pub returns : goal.returns
returns c =
    let designator = c.args.designator.now in
    let found = c.binary_search.result in
    c.is_ok.ensures.value
    ∙ found-or-not c.self.inside.names.items designator found c.self.invariant
    (subst (λ names. IsSearchInRange found (length names)) c.deref.ensures.value c.binary_search.ensures.bound)
    (subst (λ names. IsBinarySearchResult (λ y. by_name y designator) names found) c.deref.ensures.value c.binary_search.ensures.position)
    ∙ ap (list_any (same designator)) c.self.view_is
