use Rattle.desk_types.proofs.Common.{◌∙◌, nat_cmp, slice_cmp, sym}
use Rattle.desk_types.proofs.{Ascii.printable-marks, EightBytes.kept-order}
use Rattle.desk_types.proofs.designator.DesignatorOrd.cmp.Goals as goal

pub returns : goal.returns
returns c =
    c.order.ensures
    ∙ sym (kept-order _ _ _ _ _ c.self.invariant.padded c.other.invariant.padded c.self.invariant.is_designator.fits c.other.invariant.is_designator.fits (printable-marks _ c.self.invariant.is_designator.marks) (printable-marks _ c.other.invariant.is_designator.marks))
    ∙ (λ t. slice_cmp nat_cmp (c.self.view_is t) (c.other.view_is t))
