use Rattle.desk_types.proofs.Common.{◌==◌, ◌∙◌, pointwise, sym}
use Rattle.desk_types.proofs.EightBytes.{kept-same}
use Rattle.desk_types.proofs.id.IdPartialEq.eq.Goals as goal

pub returns : goal.returns
returns c =
    c.eq.ensures
    ∙ sym (kept-same _ _ _ _ _ c.self.invariant.padded c.other.invariant.padded c.self.invariant.is_id.fits c.other.invariant.is_id.fits c.self.invariant.is_id.printable c.other.invariant.is_id.printable)
    ∙ (λ t. pointwise ◌==◌ (c.self.view_is t) (c.other.view_is t))
