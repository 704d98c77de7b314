-- The view of a reel on two desks.
use Rattle.std.specs.Prelude.{◌≡◌, ◌<◌, ◌-◌, ℕ, ⊤, Option, Some, None}
use Rattle.desk_types.specs.declared.view.ReelView.{ReelView}

-- What both desks have of a reel with pieces left.
pub record IsSameView (old new : ReelView) : Type 0 where
  pub part : old.part ≡ new.part
  pub lot : old.lot ≡ new.lot
  pub level : old.level ≡ new.level
  pub label : old.label ≡ new.label
  pub is_open : old.is_open ≡ new.is_open
  pub left : old.left ≡ new.left

-- The pieces of the reel's receipt: those received, without those that counts found.
abbrev pub quantity_in : ReelView → ℕ
quantity_in view = view.received - view.found

-- The reel has the same pieces left on both desks, and the new one received so many; if these are not 0, it is the same. Only the old desk may have it alone, and then it is spent.
abbrev pub IsCarried : Option ReelView → Option ReelView → Type 0
IsCarried None None = ⊤
IsCarried None (Some new) = ⊥
IsCarried (Some old) None = old.remaining ≡ 0
IsCarried (Some old) (Some new) = (old.remaining ≡ new.remaining)
    × (quantity_in new ≡ old.remaining) × (0 < old.remaining → IsSameView old new)
