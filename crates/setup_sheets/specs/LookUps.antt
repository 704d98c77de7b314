-- The indexes of a sheet, by slot and by designator.
use Rattle.std.specs.Prelude.{◌≡◌, ℕ, Option, List}
use Rattle.std.specs.Option.{option_and_then}
use Rattle.std.specs.List.{slice_get}
use Rattle.std.specs.BTreeMap as tree
use Rattle.std.specs.BTreeMap.{BTreeMap}
use Rattle.desk_types.specs.declared.sheet.SheetRow.{SheetRow}
use Rattle.desk_types.specs.Id.{Name, by_name}
use Rattle.desk_types.specs.Setup.{row_in, slot_in}

-- The designator's slot in the index.
abbrev pub slot_at : BTreeMap Name Name → Name → Option Name
slot_at slots designator = tree.get by_name slots designator

-- The row at the slot's place in the index.
abbrev pub row_at : List SheetRow → BTreeMap Name ℕ → Name → Option SheetRow
row_at rows places slot = option_and_then (slice_get rows) (tree.get by_name places slot)

-- The indexes find each slot's row and each designator's slot.
pub record AreLookUps (rows : List SheetRow) (places : BTreeMap Name ℕ)
    (slots : BTreeMap Name Name) : Type 0 where
  pub row : (slot : Name) → row_at rows places slot ≡ row_in rows slot
  pub slot : (designator : Name) → slot_at slots designator ≡ slot_in rows designator
