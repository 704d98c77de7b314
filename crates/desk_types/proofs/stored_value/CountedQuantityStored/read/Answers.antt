use Rattle.desk_types.proofs.Common.{◌∙◌, IsCountedQuantity, IsNumber, numbers_apart, subst, sym}
use Rattle.desk_types.specs.Apart.{counted_quantities_fit}
use Rattle.desk_types.proofs.stored_value.CountedQuantityStored.read.Goals as goal

pub returns-in_default : goal.returns-in_default
returns-in_default c quantity more is e =
    let read = c.in_ok-read.ensures in
    let one = numbers_apart IsNumber (λ n fits. fits) c.in_ok-read.field-0 quantity c.read.new.fields more read.0 (counted_quantities_fit quantity is) (sym read.1 ∙ e) in
    c.in_default.ensures (subst IsCountedQuantity (sym one.0) is)
