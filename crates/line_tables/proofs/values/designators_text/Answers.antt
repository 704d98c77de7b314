use Rattle.desk_types.proofs.Common.{[], ◌++◌, ◌-◌, ◌∙◌, ◌∷◌, ◌≡◌, ap, arith, drop, flat_map, get_or, length}
use Rattle.desk_types.proofs.Common.{List, rules, take, ℕ}
use Rattle.line_tables.proofs.Spaced.{join_parts}
use Rattle.line_tables.proofs.values.designators_text.Goals as goal

pub returns : goal.returns
returns c =
    let ds = c.args.designators.now in
    let first : c.extend_from_slice.new.self.items ≡ get_or ds 0 [] = search rules in
    c.in_ok-add_spaced.ensures ∙ ap (λ (xs : List ℕ). xs ++ flat_map (λ d. 32 ∷ d) (take (length ds - 1) (drop 1 ds))) first ∙ join_parts 32 ds [] (search (rules, arith))
