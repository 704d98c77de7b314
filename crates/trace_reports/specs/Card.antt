-- The card of a reel.
use Rattle.std.specs.Prelude.{ℕ, Option, List, [], ◌∷◌, codes, decimal, if◌then◌else◌}
use Rattle.std.specs.Option.{option_map}
use Rattle.desk_types.specs.declared.view.ReelView.{ReelView}
use Rattle.desk_types.specs.Id.{Name}
use Rattle.desk_types.specs.History.{History}
use Rattle.desk_types.specs.Level.{text_of}
use Rattle.desk_types.specs.View.{reel_view}
use Rattle.trace_reports.specs.Csv.{csv_text}
use Rattle.trace_reports.specs.Shown.{left_text}

-- Whether the reel is mounted, out of its bag, or sealed.
abbrev pub state_text : ReelView → List ℕ
state_text r = if r.mounted then codes "mounted" else if r.is_open
    then codes "open" else codes "sealed"

abbrev pub card_header : List (List ℕ)
card_header =
    codes "reel" ∷ codes "part" ∷ codes "lot" ∷ codes "level" ∷ codes "received" ∷ codes "placed"
    ∷ codes "scrapped" ∷ codes "remaining"
    ∷ codes "minutes_left" ∷ codes "state" ∷ []

abbrev pub card_fields : ReelView → List (List ℕ)
card_fields r =
    r.reel ∷ r.part ∷ r.lot ∷ text_of r.level ∷ decimal r.received ∷ decimal r.placed
    ∷ decimal r.scrapped ∷ decimal r.remaining
    ∷ left_text r.left ∷ state_text r ∷ []

-- The card of the reel, if it was received.
abbrev pub reel_card : History → Name → Option (List ℕ)
reel_card H reel = option_map (λ r. csv_text card_header (card_fields r ∷ [])) (reel_view H reel)
