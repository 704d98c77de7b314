-- The entries and takes that a judge searches.
use Rattle.std.specs.Prelude.{◌≡◌, ◌≤◌, length, List}
use Rattle.desk_types.specs.declared.limits.TheConstants.{MOST_ENTRIES}
use Rattle.desk_types.specs.declared.rules.Rules.TheVariants.{Two}
use Rattle.desk_types.specs.declared.take.Take.{Take}
use Rattle.desk_types.specs.Id.{Name}
use Rattle.desk_types.specs.History.{History}
use Rattle.desk_types.specs.Judged.{IsJudged}
use Rattle.desk_types.specs.Setup.{is_part}
use Rattle.setup_sheets.specs.Names.{is_among}
use Rattle.setup_sheets.specs.Alternates.{AreAlternates}
use Rattle.look_back.specs.Kept.{AreTakes}

-- The history was accepted, with these takes, and names these parts and alternates.
pub record IsSearched (H : History) (takes : List (List Take)) (parts : List Name)
    (alternates : List (Name × Name)) : Type 0 where
  pub most : length H ≤ MOST_ENTRIES
  pub judged : IsJudged Two H
  pub takes_are : AreTakes H takes
  pub parts_are : (part : Name) → is_among parts part ≡ is_part H part
  pub alternates_are : AreAlternates H alternates
