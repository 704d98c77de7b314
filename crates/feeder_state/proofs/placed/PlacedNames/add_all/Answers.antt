use Rattle.desk_types.proofs.Common.{◌++◌, ◌∙◌, ◌≡◌, ap}
use Rattle.feeder_state.proofs.SortedNames.{gathered}
use Rattle.feeder_state.proofs.placed.PlacedNames.add_all.Goals as goal

pub returns-clause-ok : goal.returns-clause-ok
returns-clause-ok c = λ d.
    let old = c.args.self.now in
    let more = c.args.designators.now in
    let first : c.extend_from_slice.new.self.items ≡ old =
    c.in_ok-extend_from_slice.ensures.items
    ∙ ap (λ names. names ++ c.as_slice.result.now) c.in_ok-names.ensures.items
    ∙ c.as_slice.ensures.value
    ∙ c.self.view_is in
    let joined = c.in_ok-extend_from_slice-2.ensures.items ∙ ap (λ names. names ++ more) first in
    gathered old more c.extend_from_slice-2.new.self.items c.sort.new.self.items joined c.in_ok-sort.ensures.permutation d
