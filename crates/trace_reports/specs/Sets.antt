-- Records, and sets of them.
use Rattle.std.specs.Prelude.{ℕ, List, [], ◌∷◌, map}
use Rattle.std.specs.Borrow.{Bor}
use Rattle.std.specs.Ordering.{nat_cmp}
use Rattle.std.specs.declared.cmp.Ordering.{Ordering}
use Rattle.std.specs.Cmp.Lexicographic.{slice_cmp}
use Rattle.std.specs.BTreeSet.{insert_key}

-- A record's fields, each as bytes.
abbrev pub Fields : Type 0
Fields = List (List ℕ)

-- The order of records: by fields from left to right, each by bytes.
abbrev pub by_fields : Fields → Fields → Ordering
by_fields = slice_cmp (slice_cmp nat_cmp)

-- The records in order, without duplicates.
abbrev pub set_of : List Fields → List Fields
set_of [] = []
set_of (x ∷ xs) = insert_key by_fields (set_of xs) x

abbrev pub bytes_of : List (Bor (List ℕ)) → Fields
bytes_of fields = map (λ f. f.now) fields
