-- Scrapping pieces from the front of a tape.
use Rattle.std.specs.Prelude.{◌≡◌, ℕ, ◌-◌, List}
use Rattle.std.specs.List.{sum_by}
use Rattle.desk_types.specs.declared.take.Purpose.{Purpose}
use Rattle.desk_types.specs.Id.{Name}
use Rattle.desk_types.specs.Pieces.{scrap_picks}
use Rattle.judging.specs.declared.scraps.Scrapping.{Scrapping}

-- The picks of n pieces off the tape, and the number still missing.
pub record IsScrapped (pieces : Name → ℕ) (purpose : Purpose) (tape : List Name) (n : ℕ)
    (scrapping : Scrapping) : Type 0 where
  pub picks : scrapping.picks.items ≡ scrap_picks pieces purpose tape n
  pub wanting : scrapping.wanting ≡ n - sum_by pieces tape
