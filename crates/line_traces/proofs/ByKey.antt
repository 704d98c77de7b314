-- The pieces of a list by their keys.
use Rattle.desk_types.proofs.Common.{[], ◌&&◌, ◌==◌, ◌∙◌, ◌∷◌, ◌≡◌, AllByRecursion, and_parts, ap, ap₂, Bool}
use Rattle.desk_types.proofs.Common.{eq-eqb, eqb-true, false, filter, find, History, IsJudged}
use Rattle.desk_types.proofs.Common.{IsStrictlySortedBy, keys_of, List, map, placements_of, refl, Some, sym}
use Rattle.desk_types.proofs.Common.{true, true≢false}
use Rattle.desk_laws.proofs.Common.{Placement, Two}
use Rattle.line_traces.proofs.{FoundPieces.before-all, FoundPieces.IsBefore, PlacedColumns.itself}
use Rattle.line_traces.proofs.{TwoCalls.all-placed_columns}
use Rattle.line_traces.specs.Pieces.{piece_at, pieces_where}
use Rattle.sqlite_keyed.proofs.ListLemmas.{all-filter, all_both}
use Rattle.state_rows.proofs.PlacedRows.{entry_of, pieces-ascend}
use Rattle.state_rows.specs.{Kept.by_piece, Lists.Key, Lists.keys_where}
use Rattle.std.proofs.Common.{is_eq}

-- ---- look-ups

abbrev its_key : Placement → Key
its_key p = (p.number, p.place)

abbrev pub has_key : Key → Placement → Bool
has_key key p = p.number == key.0 && p.place == key.1

has-its : (p : Placement) → has_key (its_key p) p ≡ true
has-its p = ap₂ (λ a b. a && b) (eq-eqb p.number p.number refl) (eq-eqb p.place p.place refl)

other-key : (p q : Placement) → IsBefore p q → has_key (its_key q) p ≡ false
other-key p q less = by (has_key (its_key q) p) refl
  where
    by : (b : Bool) → has_key (its_key q) p ≡ b → has_key (its_key q) p ≡ false
    by true is =
        let two = and_parts (p.number == q.number) (p.place == q.place) is in
        let one : its_key p ≡ its_key q = ap₂ (λ m n. (m, n)) (eqb-true p.number q.number two.0) (eqb-true p.place q.place two.1) in
        absurd (true≢false (sym (itself (its_key q)) ∙ ap is_eq (ap (λ k. by_piece k (its_key q)) (sym one) ∙ less)))
    by false is = is

each-found : (ps : List Placement) → IsStrictlySortedBy by_piece (keys_of (map entry_of ps)) → AllByRecursion (λ p. find (has_key (its_key p)) ps ≡ Some p) ps
unfolding IsStrictlySortedBy
each-found [] sorted = tt
each-found (p ∷ ps) (above, sorted) = (
  rw (has-its p) refl,
  all_both (IsBefore p) (λ q. find (has_key (its_key q)) ps ≡ Some q) (λ q. find (has_key (its_key q)) (p ∷ ps) ≡ Some q) (λ q less is. rw (other-key p q less) is) ps (before-all p ps above) (each-found ps sorted),
)

-- ---- the pieces that pass a test

by-keys : (H : History) → IsJudged Two H → (test : Placement → Bool) → map (piece_at H) (keys_where test H) ≡ map Some (pieces_where test H)
by-keys H judged test =
    among (filter test (placements_of H)) (all-filter (λ p. find (has_key (its_key p)) (placements_of H) ≡ Some p) test (placements_of H) (each-found (placements_of H) (pieces-ascend H judged)))
  where
    among : (ps : List Placement) → AllByRecursion (λ p. find (has_key (its_key p)) (placements_of H) ≡ Some p) ps → map (piece_at H) (map its_key ps) ≡ map Some ps
    among [] all = refl
    among (p ∷ ps) (first, all) = ap₂ (λ x xs. x ∷ xs) first (among ps all)

pub listed-pieces : (H : History) → IsJudged Two H → (test : Placement → Bool) (keys : List Key) (pieces : List Placement) → keys ≡ keys_where test H → map Some pieces ≡ map (piece_at H) keys → pieces ≡ pieces_where test H
listed-pieces H judged test keys pieces are told = all-placed_columns Some (λ x y is. cc) pieces (pieces_where test H) (told ∙ ap (map (piece_at H)) are ∙ by-keys H judged test)
