use Rattle.desk_types.proofs.Common.{◌+◌, ◌∙◌, ◌∷◌, ap, arith, drop, fields_in, length-drop, sym, take}
use Rattle.desk_types.proofs.Common.{take_all, ℕ}
use Rattle.desk_types.{proofs.Splitting.cut_at, proofs.Splitting.cut_nowhere, specs.Fields.fields_left}
use Rattle.std.specs.Option.{option_copied}
use Rattle.desk_types.proofs.stored_fields.Fields.take_next.Goals as goal

pub returns-in-Some : goal.returns-in-Some
returns-in-Some c =
    sym c.self.view_is ∙ ap (λ rest. fields_left (option_copied rest)) c.in_ok-rest.was
    ∙ cut_at c.in_ok-rest.rest.now c.in-Some.end (sym c.first_tab.ensures ∙ c.in-Some.is)
    ∙ ap (λ rest. take c.in-Some.end c.in_ok-rest.rest.now ∷ fields_in rest) (sym (take_all _ (drop (c.in-Some.end + 1) c.in_ok-rest.rest.now) (omega (arith, length-drop {A = ℕ}))))

pub returns-in-None : goal.returns-in-None
returns-in-None c =
    sym c.self.view_is ∙ ap (λ rest. fields_left (option_copied rest)) c.in_ok-rest.was
    ∙ cut_nowhere c.in_ok-rest.rest.now (sym c.first_tab.ensures ∙ c.in-None.is)
