-- Sheets and alternates in maps.
use Rattle.std.specs.Prelude.{◌≡◌, Bool, Option, List}
use Rattle.std.specs.BTreeMap as tree
use Rattle.std.specs.BTreeMap.{BTreeMap}
use Rattle.std.specs.BTreeSet.{BTreeSet, contains}
use Rattle.desk_types.specs.declared.sheet.SheetRow.{SheetRow}
use Rattle.desk_types.specs.Id.{Name, by_name}
use Rattle.desk_types.specs.Pair.{by_pair}
use Rattle.desk_types.specs.History.{History}
use Rattle.desk_types.specs.Setup.{sheet_of, is_alternate}
use Rattle.desk_types.specs.View.{has_sheet}
use Rattle.feeder_state.specs.Sets.{is_name_at}
use Rattle.feeder_state.specs.declared.setup.Setup.{Setup}

-- The rows that the map has for the product on the machine.
abbrev pub sheet_at : BTreeMap (Name × Name) (List SheetRow) → Name → Name → Option (List SheetRow)
sheet_at sheets product machine = tree.get by_pair sheets (product, machine)

-- Whether the machine is among those that some sheet names.
abbrev pub is_sheeted : BTreeSet Name → Name → Bool
is_sheeted sheeted machine = contains by_name sheeted machine

-- The sheets and the alternates are those of the history.
pub record IsSetup (H : History) (setup : Setup) : Type 0 where
  pub sheets : (product machine : Name)
      → sheet_at setup.sheets product machine ≡ sheet_of H product machine
  pub sheeted : (machine : Name) → is_sheeted setup.sheeted machine ≡ has_sheet H machine
  pub alternates : (p q : Name) → is_name_at setup.alternates p q ≡ is_alternate H p q
