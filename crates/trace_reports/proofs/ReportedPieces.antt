-- The records of a report that is found.
use Rattle.desk_types.proofs.Common.{◌∙◌, ◌∷◌, ◌≡◌, ap, Bool, drop, false, if◌then◌else◌, List, None}
use Rattle.desk_types.proofs.Common.{option_map, Some, sym, true, ℕ}
use Rattle.desk_laws.proofs.Common.{Placement}
use Rattle.csv.specs.Reading.{default_config, records}
use Rattle.trace_reports.specs.{Reports.rows_below, Sets.Fields}

pub found-rows : (found : Bool) (text : List Placement → List ℕ) (header : Fields) (rows : List Placement → List Fields)
    → ((pieces : List Placement) → records default_config (text pieces) ≡ header ∷ rows pieces) → (ps : List Placement) (printed : List ℕ)
    → option_map text (if found then Some ps else None) ≡ Some printed → rows_below printed ≡ rows ps
found-rows true text header rows back ps printed given = let it : text ps ≡ printed = cc in ap rows_below (sym it) ∙ ap (drop 1) (back ps)
found-rows false text header rows back ps printed given = cc
