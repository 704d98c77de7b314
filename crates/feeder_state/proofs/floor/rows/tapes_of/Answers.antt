use Rattle.desk_types.proofs.Common.{[], ◌++◌, ◌∙◌, ap, by_pair, is_at, lookup, rules, subst, Tables}
use Rattle.desk_types.proofs.Common.{unwrap_or}
use Rattle.state_rows.proofs.SlotRows.{slot-reels, slot_reels}
use Rattle.state_rows.specs.Kept.{ListsMounts, tables_in}
use Rattle.feeder_state.proofs.floor.rows.tapes_of.Goals as goal

pub loop-row-init : goal.loop-row-init
loop-row-init c = λ H rows m s.
    let es = c.into_iter-row-iterator.result in
    let lists : ListsMounts es (tables_in c.args.rows.now).mounts = subst (λ xs. ListsMounts xs (tables_in c.args.rows.now).mounts) (search rules) c.mounts-row-items.ensures in
    ap (λ entries. unwrap_or (lookup (is_at (by_pair (m, s))) entries) [] ++ slot_reels m s es) c.new-tapes.ensures.empty
    ∙ slot-reels H m s rows.judged es (subst (ListsMounts es) (ap (λ (t : Tables). t.mounts) rows.tables) lists)
