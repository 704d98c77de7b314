-- Pieces that the trace indexes locate.
use Rattle.desk_types.proofs.Common.{[], ◌++◌, ◌+◌, ◌<◌, ◌∙◌, ◌∷◌, ◌≡◌, AllByRecursion, ap, append_assoc, ap₂}
use Rattle.desk_types.proofs.Common.{arith, Basis, boards_of, Bool, get_or, History, length, List, map}
use Rattle.desk_types.proofs.Common.{map-append, Name, Option, set_of, Some, suc, sym, take, take-next, zero}
use Rattle.desk_types.proofs.Common.{ℕ}
use Rattle.desk_laws.proofs.Common.{Placement}
use Rattle.line_tables.proofs.Common.{State}
use Rattle.line_traces.proofs.ByKey.{listed-pieces}
use Rattle.line_traces.specs.{Pieces.piece_at, Pieces.pieces_of_lot, Pieces.pieces_where, Working.FindsOfBoth}
use Rattle.line_traces.specs.{declared.working.Working.Working}
use Rattle.state_rows.specs.{Lists.IsListed, Lists.Key, Lists.key_of, Lists.keys_where}
use Rattle.state_rows.specs.{declared.lists.PieceKey.PieceKey}

-- ---- one run after another

pub run-added : (P : Key → Option Placement) (before after all : List (Option Placement)) (left run rest : List PieceKey) → left ≡ run ++ rest → after ≡ before ++ map P (map key_of run) → before ++ map P (map key_of left) ≡ all
    → after ++ map P (map key_of rest) ≡ all
run-added P before after all left run rest is added told =
    ap (λ l. l ++ map P (map key_of rest)) added
    ∙ append_assoc before (map P (map key_of run)) (map P (map key_of rest))
    ∙ ap (λ l. before ++ l) (sym (map-append P (map key_of run) (map key_of rest)) ∙ ap (map P) (sym (map-append key_of run rest) ∙ ap (map key_of) (sym is)))
    ∙ told

pub all-got : {X : Type 0} (P : X → Type 0) (xs : List X) (i : ℕ) (d : X) → AllByRecursion P xs → i < length xs → P (get_or xs i d)
all-got P [] i d all within = absurd (omega (arith, within))
all-got P (x ∷ xs) zero d all within = all.0
all-got P (x ∷ xs) (suc i) d all within = all-got P xs i d all.1 (omega (arith, within))

pub one-added : (P : Key → Option Placement) (before : List (Option Placement)) (pieces new : List Placement) (keys : List PieceKey) (i : ℕ) (key : PieceKey) (piece : Placement) → i < length keys → key ≡ get_or keys i key → new ≡ pieces ++ piece ∷ []
    → P (key_of key) ≡ Some piece → map Some pieces ≡ before ++ map P (map key_of (take i keys)) → map Some new ≡ before ++ map P (map key_of (take (i + 1) keys))
one-added P before pieces new keys i key piece within is added told so_far =
    ap (map Some) added
    ∙ map-append Some pieces (piece ∷ [])
    ∙ ap₂ (λ (l : List (Option Placement)) (o : Option Placement). l ++ o ∷ []) so_far (sym told)
    ∙ append_assoc before (map P (map key_of (take i keys))) (P (key_of key) ∷ [])
    ∙ ap (λ l. before ++ l) (
    sym (map-append P (map key_of (take i keys)) (key_of key ∷ []))
    ∙ ap (map P) (sym (map-append key_of (take i keys) (key ∷ [])) ∙ ap (map key_of) (sym (take-next keys i key within is))))

-- ---- the result

module _ {D : Type 0} (Stands : D → Basis → Type 0) (working : Working D) (old : State) where
  pub listed-told : (test : Placement → Bool) (keys : List Key) → ((H : History) → IsListed working.lists H → keys ≡ keys_where test H) → (pieces : List Placement)
      → FindsOfBoth Stands (Some working) (λ H. map (piece_at H) keys) old (map Some pieces) → FindsOfBoth Stands (Some working) (pieces_where test) old pieces
  listed-told test keys are pieces told = record {
    was_open = told.was_open;
    are = λ schema H both. listed-pieces H both.held.judged test keys pieces (are H both.working.listed) (told.are schema H both);
  }

  pub boards-told : (lot : Name) (pieces : List Placement) (boards : List Name) → boards ≡ set_of (map (λ (p : Placement). p.board) pieces) → FindsOfBoth Stands (Some working) (λ H. pieces_of_lot H lot) old pieces
      → FindsOfBoth Stands (Some working) (λ H. boards_of H lot) old boards
  boards-told lot pieces boards is told = record {
    was_open = told.was_open;
    are = λ schema H both.
        is
        ∙ ap (λ ps. set_of (map (λ (p : Placement). p.board) ps)) (told.are schema H both);
  }
