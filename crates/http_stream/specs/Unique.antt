-- How far the bytes determine the start of a stream.
use Rattle.std.specs.Prelude.{◌≡◌, ℕ, Bool, true, false, List, [], ◌∷◌}
use Rattle.http_stream.specs.Heads.{window, IsBadHead, IsUnfinished}
use Rattle.http_stream.specs.Cut.{Portion, whole, bad_head, head_too_large, unread, starved, is_last, Leads}

-- The one case that the head grammar leaves open: the window counts both as a bad head and as
-- unfinished.
abbrev pub IsOpen : List ℕ → Type 0
IsOpen input = IsBadHead (window input) × IsUnfinished (window input)

abbrev pub is_starved : Portion → Bool
is_starved starved = true
is_starved (whole r ends) = false
is_starved bad_head = false
is_starved head_too_large = false
is_starved (unread method fault) = false

-- Both are the same portion, with the same rest if the connection continues.
abbrev pub IsOnePortion : Portion → List ℕ → Portion → List ℕ → Type 0
IsOnePortion p l q m = (p ≡ q) × (is_last p ≡ false → l ≡ m)

-- No portion lacked memory.
abbrev pub NoneStarved : List Portion → Type 0
NoneStarved [] = Unit {0}
NoneStarved (p ∷ ps) = (is_starved p ≡ false) × NoneStarved ps

-- A request starts here in the stream, or the stream ends: only whole requests come before, and the
-- connection continues after each.
abbrev pub BeginsAt : List ℕ → List ℕ → Type 0
BeginsAt input left = (ps : List Portion) × Leads input ps left

-- No request starts in the open case.
abbrev pub IsClear : List ℕ → Type 0
IsClear input = (left : List ℕ) → BeginsAt input left → ¬ (IsOpen left)
