use Rattle.desk_types.proofs.Common.{◌++◌, ◌∷◌, ◌≡◌, flat_map, take}
use Rattle.line_tables.proofs.values.add_spaced.Given as goal

abbrev pub invariant-loop-designator : goal.invariant-loop-designator
invariant-loop-designator l = l.text.items ≡ l.fn.text.items ++ flat_map (λ d. 32 ∷ d) (take l.designator-index l.designators)
