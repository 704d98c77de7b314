use Rattle.desk_types.proofs.Common.{[], ◌∙◌, ◌≡◌, Bool, Bor, false, IsTrue, List, None, not, Option, refl}
use Rattle.desk_types.proofs.Common.{Some, sym, true, ℕ}
use Rattle.desk_types.{proofs.Splitting.some_field, specs.Fields.fields_left}
use Rattle.std.specs.Option.{is_some, option_copied}
use Rattle.desk_types.proofs.stored_fields.Fields.is_empty.Goals as goal

none_left : (rest : Option (Bor (List ℕ))) (is : Bool) → is_some rest ≡ not is → (IsTrue is → fields_left (option_copied rest) ≡ []) × (fields_left (option_copied rest) ≡ [] → IsTrue is)
none_left None true e = (λ _. refl, λ _. refl)
none_left None false e = absurd cc
none_left (Some text) true e = absurd cc
none_left (Some text) false e = (λ is. absurd cc, λ none. absurd (some_field text.now none))

pub returns : goal.returns
returns c =
    let left = none_left c.self.inside.rest c.is_none.result c.is_none.ensures in
    (λ is. sym c.self.view_is ∙ left.0 is, λ none. left.1 (c.self.view_is ∙ none))
