use Rattle.desk_types.proofs.Common.{◌++◌, ◌∷◌, ◌≡◌, decimal, length, take}
use Rattle.desk_types.specs.Fields.{after_tabs}
use Rattle.std.proofs.Common.{flat_map}
use Rattle.desk_types.proofs.stored_composed.BoundedStored.write.Given as goal

abbrev pub invariant-loop-item : goal.invariant-loop-item
invariant-loop-item g l = l.text.items ≡ l.fn.text.items ++ after_tabs (decimal (length l.items) ∷ flat_map g.T.Stored.spelling (take l.item-index l.items))
