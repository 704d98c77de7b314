-- A reel's placed and scrapped pieces, from the stored takes.
use Rattle.desk_types.proofs.Common.{[], ◌&&◌, ◌++◌, ◌+◌, ◌∙◌, ◌∷◌, ◌≡◌, all_picks, and-false, and-true, ap}
use Rattle.desk_types.proofs.Common.{arith, Bool, cond, false, filter-append, History, List, map, Name}
use Rattle.desk_types.proofs.Common.{picks_of, pieces_picked, refl, reverse, reverse-append, same, sum_by}
use Rattle.desk_types.proofs.Common.{sum_by-cons, sym, take_of, true, ℕ}
use Rattle.desk_laws.proofs.Common.{Pick, Take}
use Rattle.desk_laws.proofs.Picks.{pieces_picked-append}
use Rattle.look_back.specs.{Kept.AreTakes, Totals.is_usage_of, Totals.taken_for, Totals.total_of}
use Rattle.reels.specs.declared.reel.Usage.{Usage}
use Rattle.std.proofs.lemmas.List.Sums.{sum_by_push}
use Rattle.std.specs.List.{filter}

pieces_picked-filter : (test : Pick → Bool) (p : Pick) (ps : List Pick) (reel : Name)
    → pieces_picked (filter test (p ∷ ps)) reel ≡ cond (same p.reel reel && test p) p.quantity 0 + pieces_picked (filter test ps) reel
pieces_picked-filter test p ps reel = by (test p)
  where
    by : (b : Bool) → pieces_picked (cond b (p ∷ filter test ps) (filter test ps)) reel ≡ cond (same p.reel reel && b) p.quantity 0 + pieces_picked (filter test ps) reel
    by true =
        sum_by-cons (λ (q : Pick). cond (same q.reel reel) q.quantity 0) p (filter test ps)
        ∙ ap (λ b. cond b p.quantity 0 + pieces_picked (filter test ps) reel) (sym (and-true (same p.reel reel)))
    by false = let none = ap (λ b. cond b p.quantity 0) (and-false (same p.reel reel)) in omega (arith, none)

pub taken_for-map : (usage : Usage) (H : History) (minute : ℕ) (picks : List Pick) (reel : Name)
    → taken_for usage (map (take_of H minute) picks) reel ≡ pieces_picked (filter (λ p. is_usage_of usage p.purpose) picks) reel
taken_for-map usage H minute [] reel = refl
taken_for-map usage H minute (p ∷ ps) reel =
    sum_by-cons (λ (t : Take). cond (same t.reel reel && is_usage_of usage t.purpose) t.quantity 0) (take_of H minute p) (map (take_of H minute) ps)
    ∙ ap (λ n. cond (same p.reel reel && is_usage_of usage p.purpose) p.quantity 0 + n) (taken_for-map usage H minute ps reel)
    ∙ sym (pieces_picked-filter (λ p. is_usage_of usage p.purpose) p ps reel)

total-next : (usage : Usage) (H : History) (picks : List Pick) (reel : Name)
    → pieces_picked (filter (λ p. is_usage_of usage p.purpose) (all_picks H ++ picks)) reel ≡ total_of usage H reel + pieces_picked (filter (λ p. is_usage_of usage p.purpose) picks) reel
total-next usage H picks reel =
    ap (λ ps. pieces_picked ps reel) (filter-append (λ p. is_usage_of usage p.purpose) (all_picks H) picks)
    ∙ pieces_picked-append (filter (λ p. is_usage_of usage p.purpose) (all_picks H)) (filter (λ p. is_usage_of usage p.purpose) picks) reel

pub total-kept : (usage : Usage) (H : History) (kept : List (List Take)) (reel : Name) → AreTakes H kept
    → sum_by (λ takes. taken_for usage takes reel) (reverse kept) ≡ total_of usage H reel
unfolding all_picks
total-kept usage [] [] reel are = refl
total-kept usage [] (takes ∷ kept) reel are = absurd are
total-kept usage (e ∷ H) [] reel are = absurd are
total-kept usage (e ∷ H) (takes ∷ kept) reel (is, are) =
    let here = ap (λ ts. taken_for usage ts reel) is ∙ taken_for-map usage H e.effective (picks_of H e.stamped.command) reel in
    ap (sum_by (λ ts. taken_for usage ts reel)) (reverse-append (takes ∷ []) kept)
    ∙ sum_by_push (λ ts. taken_for usage ts reel) (reverse kept) takes
    ∙ ap (λ n. n + taken_for usage takes reel) (total-kept usage H kept reel are)
    ∙ ap (λ n. total_of usage H reel + n) here
    ∙ sym (total-next usage H (picks_of H e.stamped.command) reel)
