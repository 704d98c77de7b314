-- Feeder verification of a machine's front reels.
use Rattle.std.specs.Prelude.{◌≡◌, ℕ, not, Option, Some, None, List, [], ◌∷◌, map}
use Rattle.std.specs.Option.{option_map, option_or}
use Rattle.desk_types.specs.declared.answer.Refusal.{Refusal}
use Rattle.desk_types.specs.declared.answer.Refusal.TheVariants.{SlotEmpty}
use Rattle.desk_types.specs.declared.front.Front.{Front}
use Rattle.desk_types.specs.declared.front.FrontReel.{FrontReel}
use Rattle.desk_types.specs.declared.sheet.SheetRow.{SheetRow}
use Rattle.desk_types.specs.Id.{Name}
use Rattle.desk_types.specs.History.{History, now_of}
use Rattle.desk_types.specs.Front.{is_unbaked_life, is_expired_life, front_at}
use Rattle.desk_types.specs.Refusals.{feeding_refusal}
use Rattle.setup_sheets.specs.Alternates.{is_allowed_by}

abbrev pub slots_of_fronts : List Front → List Name
slots_of_fronts fronts = map (λ (front : Front). front.slot) fronts

-- The fault of the front reel in a row's slot at the minute, with these alternates.
abbrev pub front_fault : List (Name × Name) → ℕ → SheetRow → Option FrontReel → Option Refusal
front_fault alternates minute row None = Some (SlotEmpty row.slot)
front_fault alternates minute row (Some reel) =
    feeding_refusal row.slot (not (is_allowed_by alternates row.part reel.part))
    (is_unbaked_life reel.life) (is_expired_life reel.life minute)

-- The first faulty slot in sheet order, with its fault.
abbrev pub first_fault : List (Name × Name) → ℕ → List SheetRow → List Front
    → Option (Name × Refusal)
first_fault alternates minute [] fronts = None
first_fault alternates minute (row ∷ rows) [] = None
first_fault alternates minute (row ∷ rows) (front ∷ fronts) =
    option_or (option_map (λ refusal. (row.slot, refusal))
    (front_fault alternates minute row front.reel)) (first_fault alternates minute rows fronts)

-- The fronts are those of the rows' slots at the desk minute.
abbrev pub AreFronts : History → Name → List SheetRow → List Front → Type 0
AreFronts H machine rows fronts = fronts ≡ map (front_at H (now_of H) machine) rows
