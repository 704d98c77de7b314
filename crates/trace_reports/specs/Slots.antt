-- The slot list of a machine.
use Rattle.std.specs.Prelude.{ℕ, Option, List, [], ◌∷◌, map, codes, decimal}
use Rattle.std.specs.Option.{option_map}
use Rattle.desk_types.specs.declared.view.Mount.{Mount}
use Rattle.desk_types.specs.Id.{Name}
use Rattle.desk_types.specs.History.{History}
use Rattle.desk_types.specs.View.{mounts_on}
use Rattle.trace_reports.specs.Csv.{csv_text}
use Rattle.trace_reports.specs.Shown.{left_text}

abbrev pub slots_header : List (List ℕ)
slots_header =
    codes "slot" ∷ codes "position" ∷ codes "reel" ∷ codes "part" ∷ codes "lot" ∷ codes "remaining"
    ∷ codes "minutes_left" ∷ []

abbrev pub slot_fields : Mount → List (List ℕ)
slot_fields m = m.slot ∷ decimal m.position ∷ m.reel ∷ m.part ∷ m.lot
    ∷ decimal m.remaining ∷ left_text m.left ∷ []

-- The live reels on the machine's slots, by slot and position, if some sheet is for the machine.
abbrev pub slot_list : History → Name → Option (List ℕ)
slot_list H machine = option_map
    (λ mounts. csv_text slots_header (map slot_fields mounts)) (mounts_on H machine)
