use Rattle.desk_types.proofs.Common.{IsDesignator, IsId, IsListOf, IsSheetRow, list_fields, name_fields, refl}
use Rattle.desk_types.proofs.Common.{row_fields, triple_fields, TripleInRange}
use Rattle.desk_types.proofs.Readers.{unread_as}
use Rattle.desk_types.proofs.stored_composed.SheetRowStored.read.Goals as goal

pub returns-in_err-slot : goal.returns-in_err-slot
returns-in_err-slot c =
    unread_as (TripleInRange IsId IsId (IsListOf IsDesignator)) (triple_fields name_fields name_fields (list_fields name_fields)) IsSheetRow row_fields
    (λ row. (row.slot, row.part, row.designators)) (λ row is. (is.slot, is.part, is.designators)) (λ _. refl)
    c.args.fields.now c.read.new.fields c.read.new.fields c.in_err-slot.field-0.0 c.from_residual.result c.from_residual.ensures.1 c.in_err-slot.ensures
