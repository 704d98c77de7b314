-- Pairs of names, such as a machine and a slot, or a part and its alternate.
use Rattle.std.specs.Prelude.{Bool, ◌&&◌}
use Rattle.std.specs.Ordering.{ordering_then}
use Rattle.std.specs.declared.cmp.Ordering.{Ordering}
use Rattle.desk_types.specs.Id.{Name, same, by_name}

-- Whether two pairs are equal.
abbrev pub same_pair : Name × Name → Name × Name → Bool
same_pair a b = same a.0 b.0 && same a.1 b.1

-- The order of pairs: by first name, then by second.
abbrev pub by_pair : Name × Name → Name × Name → Ordering
by_pair a b = ordering_then (by_name a.0 b.0) (by_name a.1 b.1)
