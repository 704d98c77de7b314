-- The pieces of a lot or of reels, or on a board, by what a store's calls return.
use Rattle.desk_types.proofs.Common.{[], ◌&&◌, ◌||◌, ◌∙◌, ◌∷◌, ◌≡◌, AllByRecursion, ap, boards_of, Bool, by_name, cons_option, Contains}
use Rattle.desk_types.proofs.Common.{Contains-from_any, false, filter, History, if◌then◌else◌, is_at}
use Rattle.desk_types.proofs.Common.{IsJudged, List, list_any, list_any-from_Contains, list_any-same, map, Name, nat_list_eq_equiv}
use Rattle.desk_types.proofs.Common.{None, Option, option_map, option_to_list, placements_of, receipt_of}
use Rattle.desk_types.proofs.Common.{recursion_from_All, refl, same, same-refl, same-true, set_of, Some, subst, sym}
use Rattle.desk_types.proofs.Common.{true, unwrap_or}
use Rattle.desk_types.proofs.Keys.{is_at-by_name}
use Rattle.desk_laws.proofs.Common.{IsRightlyPlaced, Placement, Receipt, Two}
use Rattle.line_tables.proofs.Common.{all_weaker, filter_none}
use Rattle.chain_check.specs.{Rows.is_of, Rows.pieces_of, declared.question.Subject.TheVariants.Board}
use Rattle.chain_check.specs.{declared.question.Subject.TheVariants.Lot}
use Rattle.chain_check.specs.{declared.question.Subject.TheVariants.Reels}
use Rattle.desk_laws.proofs.{InstalledPieces.rightly-placed, Mounts.has}
use Rattle.desk_laws.proofs.{NameSets.has-set, NameSets.traces-agree}
use Rattle.line_traces.proofs.{Converse.names-told, Converse.told-all, Converse.told-converse}
use Rattle.line_traces.proofs.{PlacedColumns.receipt-there, StartedAndReceived.receipt-lot}
use Rattle.line_traces.specs.Pieces.{AreConverse, board_trace, is_board, is_lot, lot_board_names, lot_trace}
use Rattle.line_traces.specs.Pieces.{pieces_on}

all-right : (H : History) → IsJudged Two H → AllByRecursion (IsRightlyPlaced H) (placements_of H)
all-right H judged = recursion_from_All (IsRightlyPlaced H) (placements_of H) (rightly-placed H judged)

none-placed : (H : History) → IsJudged Two H → (test : Placement → Bool) → ((p : Placement) → IsRightlyPlaced H p → test p ≡ false) → filter test (placements_of H) ≡ []
none-placed H judged test other = filter_none test (placements_of H) (all_weaker (IsRightlyPlaced H) _ other (placements_of H) (all-right H judged))

-- A name that is known is none that isn't.
unlike : (is_known : Name → Bool) (a b : Name) → is_known a ≡ true → is_known b ≡ false → same a b ≡ false
unlike is_known a b there lacks = by (same a b) refl
  where
    by : (t : Bool) → same a b ≡ t → same a b ≡ false
    by true is = let one = ap is_known (same-true a b is) in cc
    by false is = is

-- ---- lots

its-lot : (H : History) → IsJudged Two H → (p : Placement) → IsRightlyPlaced H p → is_lot H p.lot ≡ true
its-lot H judged p right = receipt-lot H p.reel p.lot right.receipt (receipt-there H judged p right) (ap (λ n. same n p.lot) (sym right.lot) ∙ same-refl p.lot)

pub lot-pieces : (H : History) (lot : Name) → IsJudged Two H → unwrap_or (lot_trace H lot) [] ≡ pieces_of (Lot lot None) H
lot-pieces H lot judged =
    told-all (is_lot H lot) (pieces_of (Lot lot None) H) (λ lacks. none-placed H judged (is_of (Lot lot None)) (λ p right. unlike (is_lot H) p.lot lot (its-lot H judged p right) lacks))

-- ---- boards

none-on : (H : History) (board : Name) → IsJudged Two H → is_board H board ≡ false → pieces_on H board ≡ []
none-on H board judged lacks = at (pieces_on H board) refl
  where
    at : (pieces : List Placement) → pieces_on H board ≡ pieces → pieces_on H board ≡ []
    at [] is = is
    at (p ∷ others) is = absurd (let no : false ≡ true = none in cc)
      where
        first : has (map (λ (q : Placement). q.lot) (p ∷ others)) p.lot ≡ true
        first = ap (λ b. b || has (map (λ (q : Placement). q.lot) others) p.lot) (same-refl p.lot)

        named : has (boards_of H p.lot) board ≡ true
        named = sym (traces-agree H board p.lot) ∙ has-set (map (λ (q : Placement). q.lot) (pieces_on H board)) p.lot ∙ ap (λ (ps : List Placement). has (map (λ (q : Placement). q.lot) ps) p.lot) is ∙ first

        there : Contains (unwrap_or (lot_board_names H p.lot) []) board
        there = subst (λ (names : List Name). Contains names board) (sym (names-told H p.lot judged)) (Contains-from_any same-true board (boards_of H p.lot) named)

        converse : AreConverse board None p.lot (lot_board_names H p.lot)
        converse = subst (λ (b : Bool). AreConverse board (if b then Some (pieces_on H board) else None) p.lot (lot_board_names H p.lot)) lacks (told-converse H board p.lot judged)

        none : false ≡ true
        none = list_any-from_Contains nat_list_eq_equiv p.lot [] (converse.1 there)

pub board-pieces : (H : History) (board : Name) → IsJudged Two H → unwrap_or (board_trace H board) [] ≡ pieces_of (Board board) H
board-pieces H board judged = told-all (is_board H board) (pieces_of (Board board) H) (none-on H board judged)

-- ---- a part of a lot

pub kept-twice : {X : Type 0} (p q : X → Bool) (xs : List X) → filter q (filter p xs) ≡ filter (λ x. p x && q x) xs
kept-twice p q [] = refl
kept-twice p q (x ∷ xs) = by (p x) (q x) refl (kept-twice p q xs)
  where
    by : (a b : Bool) → q x ≡ b → filter q (filter p xs) ≡ filter (λ x. p x && q x) xs
        → filter q (if a then x ∷ filter p xs else filter p xs) ≡ (if a && b then x ∷ filter (λ x. p x && q x) xs else filter (λ x. p x && q x) xs)
    by true true its rest = ap (λ c. if c then x ∷ filter q (filter p xs) else filter q (filter p xs)) its ∙ ap (λ ys. x ∷ ys) rest
    by true false its rest = ap (λ c. if c then x ∷ filter q (filter p xs) else filter q (filter p xs)) its ∙ rest
    by false b its rest = rest

-- ---- reels

abbrev pub lot-in : History → Name → Option Name
lot-in H reel = option_map (λ (r : Receipt). r.lot) (receipt_of H reel)

pub one-more : {X : Type 0} (o : Option X) → option_to_list o ≡ cons_option o []
one-more None = refl
one-more (Some x) = refl

pub reels-test : (keys names : List Name) → keys ≡ set_of names → (p : Placement) → list_any (is_at (by_name p.reel)) keys ≡ is_of (Reels names) p
reels-test keys names is p = list_any-same (is_at (by_name p.reel)) (same p.reel) (is_at-by_name p.reel) keys ∙ ap (list_any (same p.reel)) is ∙ has-set names p.reel
