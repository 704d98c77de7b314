use Rattle.desk_types.proofs.Common.{[], ◌++◌, ◌+◌, ◌∙◌, ◌∷◌, ap, append_assoc, arith, List, map, map-append}
use Rattle.desk_types.proofs.Common.{range_with_len, sym, ℕ}
use Rattle.state_rows.specs.Lists.{Key, key_of}
use Rattle.std.proofs.lemmas.List.FromFn.{map-range_with_len_more}
use Rattle.line_traces.proofs.by_lists.add_keys.Goals as goal

pub loop-before-preserved : goal.loop-before-preserved
loop-before-preserved c =
    let number = c.args.install.number in
    let before = c.loop-before.before in
    let its : ℕ → Key = λ place. (number, place) in
    ap (map key_of) c.in_ok-push.ensures.items
    ∙ map-append key_of c.loop-before.keys.items (record { number = number; place = before + 1 } ∷ [])
    ∙ ap (λ (keys : List Key). keys ++ (number, before + 1) ∷ []) c.loop-before.invariant
    ∙ append_assoc (map key_of c.args.keys.now.items) (map its (range_with_len 1 before)) ((number, before + 1) ∷ [])
    ∙ ap (λ (keys : List Key). map key_of c.args.keys.now.items ++ keys) (sym (map-range_with_len_more its 1 before (before + 1) (omega arith)))
