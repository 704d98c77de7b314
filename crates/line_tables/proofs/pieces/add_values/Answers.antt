use Rattle.desk_types.proofs.Common.{[], ◌∷◌, ◌≡◌, append_assoc, map-append, refl}
use Rattle.line_tables.proofs.Common.{bound, owned}
use Rattle.line_tables.{proofs.RowPuts.bound_as, specs.Placing.placement_kept}
use Rattle.sqlite.specs.Values.{bound_value}
use Rattle.line_tables.proofs.pieces.add_values.Goals as goal

pub returns-clause-ok : goal.returns-clause-ok
returns-clause-ok c =
    let was = c.args.values.now.items in
    let id = c.in_ok-placement_id.field-0 in
    let rest = c.in_ok-placement_values.field-0.values in
    let kept : bound (id ∷ rest) ≡ placement_kept c.args.row.now = bound_as (id ∷ rest) (placement_kept c.args.row.now) (rw (c.in_ok-placement_id.ensures.ok, c.in_ok-placement_values.ensures.ok) refl) in
    rw (c.in_ok-extend_from_slice.ensures.items, c.in_ok-push.ensures.items, c.in_ok-reserve.ensures.items, append_assoc was (id ∷ []) rest, map-append (λ v. bound_value (owned v)) was (id ∷ rest), kept) refl
