-- The lines of an input.
use Rattle.std.specs.Prelude.{true, false, ℕ, ◌-◌, ◌==◌, Bool, not, map, List, [], ◌∷◌, length, take, get_or, count_by, if◌then◌else◌}
use Rattle.std.specs.List.{slice_split, filter}

abbrev pub is_feed : ℕ → Bool
is_feed b = b == 10

-- The line without a carriage return at its end.
abbrev pub without_return : List ℕ → List ℕ
without_return raw = if get_or raw (length raw - 1) 0 == 13 then take (length raw - 1) raw else raw

abbrev pub is_empty : List ℕ → Bool
is_empty [] = true
is_empty (x ∷ xs) = false

-- The non-empty pieces between line feeds, each without a carriage return at its end.
abbrev pub lines_of : List ℕ → List (List ℕ)
lines_of input = filter
    (λ line. not (is_empty line)) (map without_return (slice_split is_feed input))

-- The lines that end with a line feed.
abbrev pub ended_lines : List ℕ → List (List ℕ)
ended_lines input = filter (λ line. not (is_empty line))
    (map without_return (take (count_by is_feed input) (slice_split is_feed input)))

-- The line in one piece, unless it is empty.
abbrev pub lines_in : List ℕ → List (List ℕ)
lines_in raw = if is_empty (without_return raw) then [] else without_return raw ∷ []
