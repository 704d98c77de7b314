-- Names gathered and sorted.
use Rattle.desk_types.proofs.Common.{◌++◌, ◌||◌, ◌∙◌, ◌≡◌, ap, IsPermutation, List, list_any, list_any-append}
use Rattle.desk_types.proofs.Common.{list_any-IsPermutation, Name, or_comm, same, sym}

pub gathered : (old more both all : List Name) → both ≡ old ++ more → IsPermutation both all → (d : Name)
    → list_any (same d) all ≡ (list_any (same d) more || list_any (same d) old)
gathered old more both all joined moved d =
    sym (list_any-IsPermutation (same d) both all moved)
    ∙ ap (list_any (same d)) joined
    ∙ list_any-append (same d) old more
    ∙ or_comm (list_any (same d) old) (list_any (same d) more)
