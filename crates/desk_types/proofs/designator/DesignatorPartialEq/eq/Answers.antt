use Rattle.desk_types.proofs.Common.{◌==◌, ◌∙◌, pointwise, sym}
use Rattle.desk_types.proofs.{Ascii.printable-marks, EightBytes.kept-same}
use Rattle.desk_types.proofs.designator.DesignatorPartialEq.eq.Goals as goal

pub returns : goal.returns
returns c =
    c.eq.ensures
    ∙ sym (kept-same _ _ _ _ _ c.self.invariant.padded c.other.invariant.padded c.self.invariant.is_designator.fits c.other.invariant.is_designator.fits (printable-marks _ c.self.invariant.is_designator.marks) (printable-marks _ c.other.invariant.is_designator.marks))
    ∙ (λ t. pointwise ◌==◌ (c.self.view_is t) (c.other.view_is t))
