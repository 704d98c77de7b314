-- The keys that an entry adds.
use Rattle.desk_types.proofs.Common.{◌++◌, ◌+◌, ◌∙◌, ◌≡◌, accept, ap, Bool, entry_of, entry_takes, filter}
use Rattle.desk_types.proofs.Common.{filter-append, filter_map, filter_map-append, History, length, List, map}
use Rattle.desk_types.proofs.Common.{map-append, placement_of, placements_of, sym, takes_by, takes_of, ℕ}
use Rattle.desk_laws.proofs.Common.{Placement, Stamped, Take}
use Rattle.state_rows.specs.{Lists.Key, Lists.keys_where, Noting.keys_in}

abbrev pub placed_key : Placement → Key
placed_key p = (p.number, p.place)

pub keys-accepted : (test : Placement → Bool) (H : History) (s : Stamped)
    → keys_where test (accept H s) ≡ keys_where test H ++ keys_in test (entry_of H s).number (entry_of H s).effective 1 (takes_by H (entry_of H s).effective s.command)
unfolding takes_of
keys-accepted test H s =
    ap (λ ps. map placed_key (filter test ps)) (filter_map-append placement_of (takes_of H) (entry_takes H (entry_of H s)))
    ∙ ap (map placed_key) (filter-append test (placements_of H) (filter_map placement_of (entry_takes H (entry_of H s))))
    ∙ map-append placed_key (filter test (placements_of H)) (filter test (filter_map placement_of (entry_takes H (entry_of H s))))

pub keys-noted : (test : Placement → Bool) (H : History) (s : Stamped) (number : ℕ) (takes : List Take) (old new : List Key)
    → new ≡ old ++ keys_in test number (entry_of H s).effective 1 takes → old ≡ keys_where test H → number ≡ length H + 1 → takes ≡ takes_by H (entry_of H s).effective s.command
    → new ≡ keys_where test (accept H s)
keys-noted test H s number takes old new noted is at took =
    let minute = (entry_of H s).effective in
    noted
    ∙ ap (λ ks. ks ++ keys_in test number minute 1 takes) is
    ∙ ap (λ n. keys_where test H ++ keys_in test n minute 1 takes) at
    ∙ ap (λ ts. keys_where test H ++ keys_in test (length H + 1) minute 1 ts) took
    ∙ sym (keys-accepted test H s)
