-- Runs in two parts, and facts that later entries keep.
use Rattle.desk_types.proofs.Common.{[], ◌++◌, ◌∙◌, ◌∷◌, ◌≡◌, after_command, after_commands, ap, append-nil}
use Rattle.desk_types.proofs.Common.{append_assoc, entry_takes, EntryTake, filter_map, filter_map-append}
use Rattle.desk_types.proofs.Common.{History, IsPrefix, List, placement_of, placements_of, refl, replies_to}
use Rattle.desk_types.proofs.Common.{reply_to, sym, takes_of}
use Rattle.desk_laws.proofs.Common.{Entry, Placement, Rules, Stamped}

pub replies-append : (rules : Rules) (H : History) (first second : List Stamped) → replies_to rules H (first ++ second) ≡ replies_to rules H first ++ replies_to rules (after_commands rules H first) second
replies-append rules H [] second = refl
replies-append rules H (s ∷ ss) second = ap (λ replies. reply_to rules H s ∷ replies) (replies-append rules (after_command rules H s) ss second)

pub after-append : (rules : Rules) (H : History) (first second : List Stamped) → after_commands rules H (first ++ second) ≡ after_commands rules (after_commands rules H first) second
after-append rules H [] second = refl
after-append rules H (s ∷ ss) second = after-append rules (after_command rules H s) ss second

takes-later : (later : List Entry) (G : History) → (more : List EntryTake) × (takes_of (later ++ G) ≡ takes_of G ++ more)
unfolding takes_of
takes-later [] G = ([], sym (append-nil (takes_of G)))
takes-later (e ∷ later) G =
    let before = takes-later later G in (
      before.0 ++ entry_takes (later ++ G) e,
      ap (λ ts. ts ++ entry_takes (later ++ G) e) before.1 ∙ append_assoc (takes_of G) before.0 (entry_takes (later ++ G) e),
    )

-- Later entries only append placements.
pub placements-final : (G H : History) → IsPrefix G H → (more : List Placement) × (placements_of H ≡ placements_of G ++ more)
placements-final G H (later, is) =
    let takes = takes-later later G in (
      filter_map placement_of takes.0,
      ap placements_of is ∙ ap (filter_map placement_of) takes.1 ∙ filter_map-append placement_of (takes_of G) takes.0,
    )
