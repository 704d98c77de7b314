-- Placed and scrapped pieces.
use Rattle.std.specs.Prelude.{ℕ, Bool, not, ◌&&◌, List, if◌then◌else◌}
use Rattle.std.specs.List.{filter, sum_by}
use Rattle.desk_types.specs.declared.take.Purpose.{Purpose}
use Rattle.desk_types.specs.declared.take.Take.{Take}
use Rattle.desk_types.specs.Id.{Name, same}
use Rattle.desk_types.specs.History.{History}
use Rattle.desk_types.specs.Pieces.{pieces_picked, all_picks, is_placed}
use Rattle.reels.specs.declared.reel.Usage.{Usage}
use Rattle.reels.specs.declared.reel.Usage.TheVariants.{Placed, Scrapped}

-- Whether pieces taken for this purpose have this usage.
abbrev pub is_usage_of : Usage → Purpose → Bool
is_usage_of Placed purpose = is_placed purpose
is_usage_of Scrapped purpose = not (is_placed purpose)

-- The reel's pieces with this usage.
abbrev pub total_of : Usage → History → Name → ℕ
total_of usage H reel = pieces_picked (filter (λ p. is_usage_of usage p.purpose) (all_picks H)) reel

-- How many of the reel's pieces are taken for this usage.
abbrev pub taken_for : Usage → List Take → Name → ℕ
taken_for usage takes reel =
    sum_by (λ t. if same t.reel reel && is_usage_of usage t.purpose then t.quantity else 0) takes
