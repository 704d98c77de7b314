use Rattle.desk_types.proofs.Common.{◌∙◌, IsNumber, IsQuantity, numbers_apart, quantities_fit, subst, sym}
use Rattle.desk_types.proofs.stored_value.QuantityStored.read.Goals as goal

pub returns-in_default : goal.returns-in_default
returns-in_default c quantity more is e =
    let read = c.in_ok-read.ensures in
    let one = numbers_apart IsNumber (λ n fits. fits) c.in_ok-read.field-0 quantity c.read.new.fields more read.0 (quantities_fit quantity is) (sym read.1 ∙ e) in
    c.in_default.ensures (subst IsQuantity (sym one.0) is)
