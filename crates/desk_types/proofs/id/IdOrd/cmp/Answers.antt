use Rattle.desk_types.proofs.Common.{◌∙◌, nat_cmp, slice_cmp, sym}
use Rattle.desk_types.proofs.EightBytes.{kept-order}
use Rattle.desk_types.proofs.id.IdOrd.cmp.Goals as goal

pub returns : goal.returns
returns c =
    c.order.ensures
    ∙ sym (kept-order _ _ _ _ _ c.self.invariant.padded c.other.invariant.padded c.self.invariant.is_id.fits c.other.invariant.is_id.fits c.self.invariant.is_id.printable c.other.invariant.is_id.printable)
    ∙ (λ t. slice_cmp nat_cmp (c.self.view_is t) (c.other.view_is t))
