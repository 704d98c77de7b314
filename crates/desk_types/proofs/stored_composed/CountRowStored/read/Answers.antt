use Rattle.desk_types.proofs.Common.{count_fields, IsCountedQuantity, IsCountRow, IsId, name_fields}
use Rattle.desk_types.proofs.Common.{number_fields, refl}
use Rattle.desk_types.{proofs.Readers.unread_as, specs.Fields.pair_fields, specs.Fields.PairInRange}
use Rattle.desk_types.proofs.stored_composed.CountRowStored.read.Goals as goal

pub returns-in_err-reel : goal.returns-in_err-reel
returns-in_err-reel c =
    unread_as (PairInRange IsId IsCountedQuantity) (pair_fields name_fields number_fields) IsCountRow count_fields (λ row. (row.reel, row.quantity))
    (λ row is. (is.reel, is.quantity)) (λ _. refl) c.args.fields.now c.read.new.fields c.read.new.fields c.in_err-reel.field-0.0 c.from_residual.result
    c.from_residual.ensures.1 c.in_err-reel.ensures
