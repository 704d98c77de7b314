-- Lists of strings as JSON arrays.
use Rattle.desk_types.proofs.Common.{[], ◌∷◌, ◌≡◌, false, List, map, refl, ℕ}
use Rattle.serde_json.specs.{Data.string, View.items_of, Written.items_have_float}

pub strings_have_none : (texts : List (List ℕ)) → items_have_float (items_of (map string texts)) ≡ false
strings_have_none [] = refl
strings_have_none (t ∷ ts) = strings_have_none ts
