-- Reading a body.
use Rattle.std.specs.Prelude.{◌≡◌, ℕ, ◌<◌, Bool, true, false, List, length, Option, Result, Ok}
use Rattle.std.specs.Io.KnownBytes.{Consumes, Keeps, IsAtEnd}
use Rattle.http_stream.specs.declared.body.BodyTaken.{BodyTaken}
use Rattle.http_stream.specs.declared.body.BodyTaken.TheVariants as body

-- Fewer than n bytes were read.
abbrev pub ReadsFewer : Option (List ℕ) → Option (List ℕ) → ℕ → Type 0
ReadsFewer old new n = (gone : List ℕ) × (length gone < n) × Consumes old new gone

-- The body was taken whole; or the input ended inside it; or memory was too small for a non-empty
-- body.
abbrev pub TakesBody : Option (List ℕ) → ℕ → BodyTaken → Option (List ℕ) → Type 0
TakesBody old n (body.Whole bytes) new = (length bytes.items ≡ n) × Consumes old new bytes.items
TakesBody old n body.End new = (gone : List ℕ) × (length gone < n)
    × Consumes old new gone × IsAtEnd new
TakesBody old n body.NoMemory new = (0 < n) × Keeps old new

-- The room was filled, or the input ended before.
pub record Fills {E : Type 0} (result : Result Bool E) (room room' : List ℕ)
    (old new : Option (List ℕ)) : Type 0 where
  pub whole : result ≡ Ok true → Consumes old new room'
  pub end : result ≡ Ok false → (gone : List ℕ) × (length gone < length room)
      × Consumes old new gone × IsAtEnd new
