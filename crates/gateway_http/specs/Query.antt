-- The values in a query: pairs of name and value, encoded like a web form.
use Rattle.std.specs.Prelude.{ℕ, List, [], ◌∷◌, Option, Some, None, if◌then◌else◌}
use Rattle.std.specs.Str.Lossy.{utf8_lossy}
use Rattle.form_urlencoded.specs.Form.{raw_pairs, decode}
use Rattle.desk_types.specs.Id.{same}

-- The decoded text of a name or value, with U+FFFD for invalid UTF-8.
abbrev pub text_of : List ℕ → List ℕ
text_of bytes = utf8_lossy (decode bytes)

-- The values of the pairs with this name.
abbrev pub values_of : List ℕ → List (List ℕ × List ℕ) → List (List ℕ)
values_of name [] = []
values_of name ((key, value) ∷ pairs) = if same (text_of key) name
    then text_of value ∷ values_of name pairs else values_of name pairs

-- The element of a list with exactly one.
abbrev pub only : List (List ℕ) → Option (List ℕ)
only (value ∷ []) = Some value
only _ = None

-- The name's value, if the name occurs exactly once in the query.
unfoldable pub value_of : List ℕ → List ℕ → Option (List ℕ)
value_of name query = only (values_of name (raw_pairs query))
