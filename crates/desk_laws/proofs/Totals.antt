-- A reel's placed and scrapped pieces after one more entry.
use Rattle.desk_types.proofs.Common.{◌++◌, ◌+◌, ◌∙◌, ◌∷◌, ◌≡◌, all_picks, ap, Bool, filter-append, History}
use Rattle.desk_types.proofs.Common.{if◌then◌else◌, is_placed, List, Name, not, picks_of, pieces_picked}
use Rattle.desk_types.proofs.Common.{placed_of, refl, same, scrapped_of, sym}
use Rattle.desk_laws.proofs.Common.{Entry, Pick}
use Rattle.desk_laws.proofs.Picks.{pieces_picked-append}
use Rattle.std.{proofs.lemmas.List.Filters.sum_by-filter_both, specs.List.filter}

pub pieces_picked-split : (picks : List Pick) (reel : Name)
    → pieces_picked picks reel ≡ pieces_picked (filter (λ p. is_placed p.purpose) picks) reel + pieces_picked (filter (λ p. not (is_placed p.purpose)) picks) reel
pieces_picked-split picks reel =
    sym (sum_by-filter_both (λ (p : Pick). is_placed p.purpose) (λ (p : Pick). not (is_placed p.purpose)) (λ p. refl) (λ (p : Pick). if same p.reel reel then p.quantity else 0) picks)

pub pieces_picked-filter : (test : Pick → Bool) (before after : List Pick) (reel : Name)
    → pieces_picked (filter test (before ++ after)) reel ≡ pieces_picked (filter test before) reel + pieces_picked (filter test after) reel
pieces_picked-filter test before after reel =
    ap (λ picks. pieces_picked picks reel) (filter-append test before after) ∙ pieces_picked-append (filter test before) (filter test after) reel

pub placed-next : (H : History) (e : Entry) (reel : Name)
    → placed_of (e ∷ H) reel ≡ placed_of H reel + pieces_picked (filter (λ p. is_placed p.purpose) (picks_of H e.stamped.command)) reel
unfolding all_picks
placed-next H e reel = pieces_picked-filter (λ p. is_placed p.purpose) (all_picks H) (picks_of H e.stamped.command) reel

pub scrapped-next : (H : History) (e : Entry) (reel : Name)
    → scrapped_of (e ∷ H) reel ≡ scrapped_of H reel + pieces_picked (filter (λ p. not (is_placed p.purpose)) (picks_of H e.stamped.command)) reel
unfolding all_picks
scrapped-next H e reel = pieces_picked-filter (λ p. not (is_placed p.purpose)) (all_picks H) (picks_of H e.stamped.command) reel
