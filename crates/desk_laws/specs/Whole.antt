-- The places where an install puts its pieces.
use Rattle.std.specs.Prelude.{ℕ, List, map}
use Rattle.std.specs.List.{enumerate_from}
use Rattle.desk_types.specs.declared.placement.Placement.{Placement}
use Rattle.desk_types.specs.Id.{Name}

-- A piece's destination, and its place in the message.
pub record Spot : Type 0 where
  pub place : ℕ
  pub machine : Name
  pub board : Name
  pub designator : Name

-- The spot of a placement.
abbrev pub spot_of : Placement → Spot
spot_of p = record {
  place = p.place;
  machine = p.machine;
  board = p.board;
  designator = p.designator;
}

-- One spot for each designator in order, numbered from this place.
abbrev pub spots_from : ℕ → Name → Name → List Name → List Spot
spots_from first machine board designators =
    map (λ (place, d). record { place = place; machine = machine; board = board; designator = d })
    (enumerate_from first designators)

-- The spots that an install names.
abbrev pub spots_named : Name → Name → List Name → List Spot
spots_named machine board designators = spots_from 1 machine board designators
