use Rattle.desk_types.proofs.Common.{count_fields, IsCountRow, IsDesignator, IsId, IsListOf, IsQuantity}
use Rattle.desk_types.proofs.Common.{IsSheetRow, list_fields, name_fields, number_fields, refl, row_fields}
use Rattle.desk_types.proofs.Common.{triple_fields, TripleInRange}
use Rattle.desk_types.proofs.Members.{word_unread}
use Rattle.desk_types.specs.Fields.{pair_fields, PairInRange}
use Rattle.desk_types.specs.declared.stored_word.Word.TheVariants.{AlternateAllowed, CountsTaken}
use Rattle.desk_types.specs.declared.stored_word.Word.TheVariants.{MaterialsInstalled, MaterialsLoaded}
use Rattle.desk_types.specs.declared.stored_word.Word.TheVariants.{MaterialsScrapped, MaterialsSpliced}
use Rattle.desk_types.specs.declared.stored_word.Word.TheVariants.{MaterialsUnloaded, PartDefined}
use Rattle.desk_types.specs.declared.stored_word.Word.TheVariants.{ProductSelected, ReelBaked, ReelOpened}
use Rattle.desk_types.specs.declared.stored_word.Word.TheVariants.{ReelSealed, SheetDefined, WorkCompleted}
use Rattle.desk_types.specs.declared.stored_word.Word.TheVariants.{WorkStarted}
use Rattle.desk_types.proofs.stored_reading.members.Goals as goal

pub returns-in_err-read-in-PartDefined : goal.returns-in_err-read-in-PartDefined
returns-in_err-read-in-PartDefined c =
    word_unread PartDefined IsId name_fields (λ _ is. is) (λ _. refl) c.args.word c.in-PartDefined.is c.args.fields.now c.read.new.fields c.read.new.fields
    c.in_err-read-in-PartDefined.field-0.0 c.from_residual.result c.from_residual.ensures.1 c.in_err-read-in-PartDefined.ensures

pub returns-in_err-part-in-AlternateAllowed : goal.returns-in_err-part-in-AlternateAllowed
returns-in_err-part-in-AlternateAllowed c =
    word_unread AlternateAllowed (PairInRange IsId IsId) (pair_fields name_fields name_fields) (λ _ is. is) (λ _. refl) c.args.word c.in-AlternateAllowed.is c.args.fields.now c.read-in-AlternateAllowed.new.fields c.read-in-AlternateAllowed.new.fields
    c.in_err-part-in-AlternateAllowed.field-0.0 c.from_residual-in_err-part-in-AlternateAllowed.result c.from_residual-in_err-part-in-AlternateAllowed.ensures.1 c.in_err-part-in-AlternateAllowed.ensures

pub returns-in_err-product-in-SheetDefined : goal.returns-in_err-product-in-SheetDefined
returns-in_err-product-in-SheetDefined c =
    word_unread SheetDefined (TripleInRange IsId IsId (IsListOf IsSheetRow)) (triple_fields name_fields name_fields (list_fields row_fields)) (λ _ is. is) (λ _. refl) c.args.word c.in-SheetDefined.is c.args.fields.now c.read-in-SheetDefined.new.fields c.read-in-SheetDefined.new.fields
    c.in_err-product-in-SheetDefined.field-0.0 c.from_residual-in_err-product-in-SheetDefined.result c.from_residual-in_err-product-in-SheetDefined.ensures.1 c.in_err-product-in-SheetDefined.ensures

pub returns-in_err-machine-in-ProductSelected : goal.returns-in_err-machine-in-ProductSelected
returns-in_err-machine-in-ProductSelected c =
    word_unread ProductSelected (PairInRange IsId IsId) (pair_fields name_fields name_fields) (λ _ is. is) (λ _. refl) c.args.word c.in-ProductSelected.is c.args.fields.now c.read-in-ProductSelected.new.fields c.read-in-ProductSelected.new.fields
    c.in_err-machine-in-ProductSelected.field-0.0 c.from_residual-in_err-machine-in-ProductSelected.result c.from_residual-in_err-machine-in-ProductSelected.ensures.1 c.in_err-machine-in-ProductSelected.ensures

pub returns-in_err-read-in-ReelOpened : goal.returns-in_err-read-in-ReelOpened
returns-in_err-read-in-ReelOpened c =
    word_unread ReelOpened IsId name_fields (λ _ is. is) (λ _. refl) c.args.word c.in-ReelOpened.is c.args.fields.now c.read-in-ReelOpened.new.fields c.read-in-ReelOpened.new.fields
    c.in_err-read-in-ReelOpened.field-0.0 c.from_residual-in_err-read-in-ReelOpened.result c.from_residual-in_err-read-in-ReelOpened.ensures.1 c.in_err-read-in-ReelOpened.ensures

pub returns-in_err-read-in-ReelSealed : goal.returns-in_err-read-in-ReelSealed
returns-in_err-read-in-ReelSealed c =
    word_unread ReelSealed IsId name_fields (λ _ is. is) (λ _. refl) c.args.word c.in-ReelSealed.is c.args.fields.now c.read-in-ReelSealed.new.fields c.read-in-ReelSealed.new.fields
    c.in_err-read-in-ReelSealed.field-0.0 c.from_residual-in_err-read-in-ReelSealed.result c.from_residual-in_err-read-in-ReelSealed.ensures.1 c.in_err-read-in-ReelSealed.ensures

pub returns-in_err-read-in-ReelBaked : goal.returns-in_err-read-in-ReelBaked
returns-in_err-read-in-ReelBaked c =
    word_unread ReelBaked IsId name_fields (λ _ is. is) (λ _. refl) c.args.word c.in-ReelBaked.is c.args.fields.now c.read-in-ReelBaked.new.fields c.read-in-ReelBaked.new.fields
    c.in_err-read-in-ReelBaked.field-0.0 c.from_residual-in_err-read-in-ReelBaked.result c.from_residual-in_err-read-in-ReelBaked.ensures.1 c.in_err-read-in-ReelBaked.ensures

pub returns-in_err-machine-in-MaterialsLoaded : goal.returns-in_err-machine-in-MaterialsLoaded
returns-in_err-machine-in-MaterialsLoaded c =
    word_unread MaterialsLoaded (TripleInRange IsId IsId IsId) (triple_fields name_fields name_fields name_fields) (λ _ is. is) (λ _. refl) c.args.word c.in-MaterialsLoaded.is c.args.fields.now c.read-in-MaterialsLoaded.new.fields c.read-in-MaterialsLoaded.new.fields
    c.in_err-machine-in-MaterialsLoaded.field-0.0 c.from_residual-in_err-machine-in-MaterialsLoaded.result c.from_residual-in_err-machine-in-MaterialsLoaded.ensures.1 c.in_err-machine-in-MaterialsLoaded.ensures

pub returns-in_err-machine-in-MaterialsSpliced : goal.returns-in_err-machine-in-MaterialsSpliced
returns-in_err-machine-in-MaterialsSpliced c =
    word_unread MaterialsSpliced (TripleInRange IsId IsId IsId) (triple_fields name_fields name_fields name_fields) (λ _ is. is) (λ _. refl) c.args.word c.in-MaterialsSpliced.is c.args.fields.now c.read-in-MaterialsSpliced.new.fields c.read-in-MaterialsSpliced.new.fields
    c.in_err-machine-in-MaterialsSpliced.field-0.0 c.from_residual-in_err-machine-in-MaterialsSpliced.result c.from_residual-in_err-machine-in-MaterialsSpliced.ensures.1 c.in_err-machine-in-MaterialsSpliced.ensures

pub returns-in_err-machine-in-MaterialsUnloaded : goal.returns-in_err-machine-in-MaterialsUnloaded
returns-in_err-machine-in-MaterialsUnloaded c =
    word_unread MaterialsUnloaded (PairInRange IsId IsId) (pair_fields name_fields name_fields) (λ _ is. is) (λ _. refl) c.args.word c.in-MaterialsUnloaded.is c.args.fields.now c.read-in-MaterialsUnloaded.new.fields c.read-in-MaterialsUnloaded.new.fields
    c.in_err-machine-in-MaterialsUnloaded.field-0.0 c.from_residual-in_err-machine-in-MaterialsUnloaded.result c.from_residual-in_err-machine-in-MaterialsUnloaded.ensures.1 c.in_err-machine-in-MaterialsUnloaded.ensures

pub returns-in_err-machine-in-WorkStarted : goal.returns-in_err-machine-in-WorkStarted
returns-in_err-machine-in-WorkStarted c =
    word_unread WorkStarted (PairInRange IsId IsId) (pair_fields name_fields name_fields) (λ _ is. is) (λ _. refl) c.args.word c.in-WorkStarted.is c.args.fields.now c.read-in-WorkStarted.new.fields c.read-in-WorkStarted.new.fields
    c.in_err-machine-in-WorkStarted.field-0.0 c.from_residual-in_err-machine-in-WorkStarted.result c.from_residual-in_err-machine-in-WorkStarted.ensures.1 c.in_err-machine-in-WorkStarted.ensures

pub returns-in_err-machine-in-WorkCompleted : goal.returns-in_err-machine-in-WorkCompleted
returns-in_err-machine-in-WorkCompleted c =
    word_unread WorkCompleted (PairInRange IsId IsId) (pair_fields name_fields name_fields) (λ _ is. is) (λ _. refl) c.args.word c.in-WorkCompleted.is c.args.fields.now c.read-in-WorkCompleted.new.fields c.read-in-WorkCompleted.new.fields
    c.in_err-machine-in-WorkCompleted.field-0.0 c.from_residual-in_err-machine-in-WorkCompleted.result c.from_residual-in_err-machine-in-WorkCompleted.ensures.1 c.in_err-machine-in-WorkCompleted.ensures

pub returns-in_err-machine-in-MaterialsInstalled : goal.returns-in_err-machine-in-MaterialsInstalled
returns-in_err-machine-in-MaterialsInstalled c =
    word_unread MaterialsInstalled (TripleInRange IsId IsId (IsListOf IsDesignator)) (triple_fields name_fields name_fields (list_fields name_fields)) (λ _ is. is) (λ _. refl) c.args.word c.in-MaterialsInstalled.is c.args.fields.now c.read-in-MaterialsInstalled.new.fields c.read-in-MaterialsInstalled.new.fields
    c.in_err-machine-in-MaterialsInstalled.field-0.0 c.from_residual-in_err-machine-in-MaterialsInstalled.result c.from_residual-in_err-machine-in-MaterialsInstalled.ensures.1 c.in_err-machine-in-MaterialsInstalled.ensures

pub returns-in_err-machine-in-MaterialsScrapped : goal.returns-in_err-machine-in-MaterialsScrapped
returns-in_err-machine-in-MaterialsScrapped c =
    word_unread MaterialsScrapped (TripleInRange IsId IsId IsQuantity) (triple_fields name_fields name_fields number_fields) (λ _ is. is) (λ _. refl) c.args.word c.in-MaterialsScrapped.is c.args.fields.now c.read-in-MaterialsScrapped.new.fields c.read-in-MaterialsScrapped.new.fields
    c.in_err-machine-in-MaterialsScrapped.field-0.0 c.from_residual-in_err-machine-in-MaterialsScrapped.result c.from_residual-in_err-machine-in-MaterialsScrapped.ensures.1 c.in_err-machine-in-MaterialsScrapped.ensures

pub returns-in_err-read-in-CountsTaken : goal.returns-in_err-read-in-CountsTaken
returns-in_err-read-in-CountsTaken c =
    word_unread CountsTaken (IsListOf IsCountRow) (list_fields count_fields) (λ _ is. is) (λ _. refl) c.args.word c.in-CountsTaken.is c.args.fields.now c.read-in-CountsTaken.new.fields c.read-in-CountsTaken.new.fields
    c.in_err-read-in-CountsTaken.field-0.0 c.from_residual-in_err-read-in-CountsTaken.result c.from_residual-in_err-read-in-CountsTaken.ensures.1 c.in_err-read-in-CountsTaken.ensures
