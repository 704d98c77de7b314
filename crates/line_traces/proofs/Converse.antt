-- The two traces agree.
use Rattle.desk_types.proofs.Common.{[], ◌++◌, ◌↔◌, ◌∙◌, ◌∷◌, ◌≡◌, ap, append_assoc, boards_of, Bool}
use Rattle.desk_types.proofs.Common.{command_refusal, Contains, Contains-from_any, false, filter, History}
use Rattle.desk_types.proofs.Common.{if◌then◌else◌, in_work_on, install_refusal, is_in_work_on, IsJudged}
use Rattle.desk_types.proofs.Common.{IsPrefix, List, list_any, list_any-append, list_any-from_Contains, map}
use Rattle.desk_types.proofs.Common.{Name, nat_list_eq_equiv, None, Option, option_map_or, or_right}
use Rattle.desk_types.proofs.Common.{placements_of, recursion_from_All, refl, same, same-refl, same-true}
use Rattle.desk_types.proofs.Common.{set_of, Some, sym, true, unwrap_or}
use Rattle.desk_laws.proofs.Common.{Entry, IsRightlyPlaced, MaterialsInstalled, Placement, Two}
use Rattle.line_tables.proofs.Common.{all_weaker, filter_none}
use Rattle.desk_laws.proofs.{Accepted.next-accepted, BoardsInWork.work-product}
use Rattle.desk_laws.proofs.{InstalledPieces.rightly-placed, Judgements.judged-prefix, Mounts.has}
use Rattle.desk_laws.proofs.{NameSets.has-set, NameSets.traces-agree}
use Rattle.line_traces.proofs.StartedAndReceived.{board-started, receipt-lot}
use Rattle.line_traces.specs.Pieces.{AreConverse, board_trace, is_board, is_lot, lot_board_names, pieces_on}
use Rattle.line_traces.specs.Pieces.{receives, starts}

-- ---- every history

only-there : {X : Type 0} (b : Bool) (x y : X) → ◌≡◌ {A = Option X} (if b then Some x else None) (Some y) → y ≡ x
only-there true x y is = cc
only-there false x y is = cc

-- The lot is among the lots of the board's pieces if the board is among the lot's boards.
abbrev AreOne : List Placement → Name → List Name → Name → Type 0
AreOne pieces lot boards board = Contains (map (λ (p : Placement). p.lot) pieces) lot ↔ Contains boards board

all-converse : (H : History) (board lot : Name) → AreOne (pieces_on H board) lot (boards_of H lot) board
all-converse H board lot = (
  λ there. Contains-from_any same-true board _ (sym agree ∙ list_any-from_Contains nat_list_eq_equiv lot _ there),
  λ there. Contains-from_any same-true lot _ (agree ∙ list_any-from_Contains nat_list_eq_equiv board _ there),
)
  where
    lots : List Name
    lots = map (λ (p : Placement). p.lot) (filter (λ p. same p.board board) (placements_of H))

    agree : has (map (λ (p : Placement). p.lot) (pieces_on H board)) lot ≡ has (boards_of H lot) board
    agree = sym (has-set lots lot) ∙ traces-agree H board lot

pub rows-converse : (H : History) (board lot : Name) (pieces : List Placement) (boards : List Name) → board_trace H board ≡ Some pieces → lot_board_names H lot ≡ Some boards
    → Contains (map (λ (p : Placement). p.lot) pieces) lot ↔ Contains boards board
rows-converse H board lot pieces boards told names =
    rw (only-there (is_board H board) (pieces_on H board) pieces told, only-there (is_lot H lot) (boards_of H lot) boards names) (all-converse H board lot)

-- ---- a judged history

has-held : {R : Type 0} (b : Bool) (rest : Option R) (refusal : R) → (if b then rest else Some refusal) ≡ None → b ≡ true
has-held true rest refusal none = refl
has-held false rest refusal none = cc

installed-on : (H : History) (machine board : Name) (ds : List Name) → install_refusal H machine board ds ≡ None → in_work_on H machine ≡ Some board
unfolding install_refusal
installed-on H machine board ds none = at (in_work_on H machine) (has-held (is_in_work_on H machine board) _ _ none)
  where
    at : (o : Option Name) → option_map_or (same board) o false ≡ true → o ≡ Some board
    at None is = cc
    at (Some b) is = ap Some (sym (same-true board b is))

later-any : (test : Entry → Bool) (G H : History) → IsPrefix G H → list_any test G ≡ true → list_any test H ≡ true
later-any test G H before is = ap (list_any test) before.1 ∙ list_any-append test before.0 G ∙ or_right (list_any test before.0) _ is

known : (H : History) → IsJudged Two H → (p : Placement) → IsRightlyPlaced H p → (is_board H p.board ≡ true) × (is_lot H p.lot ≡ true)
unfolding command_refusal
known H judged p right =
    let G = right.before in
    let before : IsPrefix G H = (right.accepted.0 ++ right.entry ∷ [], right.accepted.1 ∙ sym (append_assoc right.accepted.0 (right.entry ∷ []) G)) in
    let both = judged-prefix (right.entry ∷ G) H right.accepted judged in
    let none : command_refusal Two G right.entry.effective (MaterialsInstalled p.machine p.board right.designators) ≡ None =
    sym (ap (command_refusal Two G right.entry.effective) right.command) ∙ next-accepted G right.entry both.0 in
    let on = installed-on G p.machine p.board right.designators none in (
      later-any (λ e. starts p.board e.stamped.command) G H before (sym (board-started G p.board both.1) ∙ work-product G p.machine p.board both.1 on),
      later-any (λ e. receives p.lot e.stamped.command) G H before (receipt-lot G p.reel p.lot right.receipt right.received (ap (λ n. same n p.lot) (sym right.lot) ∙ same-refl p.lot)),
    )

none-named : (H : History) → IsJudged Two H → (name : Placement → Name) (knows : Name → Bool) → ((p : Placement) → IsRightlyPlaced H p → knows (name p) ≡ true) → (n : Name) → knows n ≡ false
    → filter (λ p. same (name p) n) (placements_of H) ≡ []
none-named H judged name knows each n unknown =
    filter_none (λ p. same (name p) n) (placements_of H) (all_weaker (IsRightlyPlaced H) _ other (placements_of H) (recursion_from_All (IsRightlyPlaced H) (placements_of H) (rightly-placed H judged)))
  where
    other : (p : Placement) → IsRightlyPlaced H p → same (name p) n ≡ false
    other p right = by (same (name p) n) refl
      where
        by : (b : Bool) → same (name p) n ≡ b → same (name p) n ≡ false
        by true is = let one = ap knows (same-true (name p) n is) in let its = each p right in cc
        by false is = is

pub told-all : {X : Type 0} (b : Bool) (xs : List X) → (b ≡ false → xs ≡ []) → unwrap_or (if b then Some xs else None) [] ≡ xs
told-all true xs none = refl
told-all false xs none = sym (none refl)

-- A lot that was not received is on no board.
pub names-told : (H : History) (lot : Name) → IsJudged Two H → unwrap_or (lot_board_names H lot) [] ≡ boards_of H lot
names-told H lot judged =
    told-all (is_lot H lot) (boards_of H lot) (λ no. ap (λ ps. set_of (map (λ (p : Placement). p.board) ps)) (none-named H judged (λ p. p.lot) (is_lot H) (λ p right. (known H judged p right).1) lot no))

pub told-converse : (H : History) (board lot : Name) → IsJudged Two H → AreConverse board (board_trace H board) lot (lot_board_names H lot)
told-converse H board lot judged =
    rw (
      told-all (is_board H board) (pieces_on H board) (λ no. none-named H judged (λ p. p.board) (is_board H) (λ p right. (known H judged p right).0) board no),
      names-told H lot judged,
    ) (all-converse H board lot)
