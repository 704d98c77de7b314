-- The lots and boards over a chain of desk files.
use Rattle.desk_types.proofs.Common.{[], ◌&&◌, ◌++◌, ◌<◌, ◌||◌, ◌↔◌, ◌∙◌, ◌∷◌, ◌≡◌, ◌≤◌, All, All-head}
use Rattle.desk_types.proofs.Common.{All-tail, and_comm, Any, Any-from_list_any, ap, append_assoc, arith}
use Rattle.desk_types.proofs.Common.{boards_of, Bool, Contains, false, History, if◌then◌else◌, is_some}
use Rattle.desk_types.proofs.Common.{IsCommand, IsJudged, List, list_any, list_any-append, list_any-from_Any}
use Rattle.desk_types.proofs.Common.{list_any-same, lots_of, map, Name, None, Option, option_map}
use Rattle.desk_types.proofs.Common.{option_map_or, option_or, placements_of, receipt_by, receipt_of, refl}
use Rattle.desk_types.proofs.Common.{same, same-sym, Some, sym, true, ℕ}
use Rattle.desk_laws.proofs.Common.{boards_over, Carries, Command, DeskFile, IsChain, IsRightlyPlaced}
use Rattle.desk_laws.proofs.Common.{judged-by-two, lots_over, Placement, Receipt, ReelReceived, Two}
use Rattle.desk_laws.proofs.{InstalledPieces.rightly-placed, Judgements.judged-prefix, Mounts.from-has}
use Rattle.desk_laws.proofs.{Mounts.has, Mounts.has-from, NameSets.has-read, NameSets.has-set}
use Rattle.desk_laws.proofs.{NameSets.traces-converse, ReelsLater.receipt-prefix}
use Rattle.desk_laws.specs.Chain.{lot_over, origin, pieces_over, receipt_over}
use Rattle.std.specs.Prelude.{slice_index_or}

-- ---- receipts

-- A reel is received with a piece at least.
received-some : (H : History) (reel : Name) (receipt : Receipt) → IsJudged Two H → receipt_of H reel ≡ Some receipt → 1 ≤ receipt.quantity
received-some [] reel receipt judged is = cc
received-some (e ∷ H) reel receipt (next, judged) is = by (receipt_by reel e.effective e.stamped.command) refl is (received-some H reel receipt judged)
  where
    of : (command : Command) (minute : ℕ) → IsCommand command → receipt_by reel minute command ≡ Some receipt → 1 ≤ receipt.quantity
    of (ReelReceived r part lot moisture quantity) minute range is = here (same r reel) is
      where
        here : (b : Bool) → (if b then Some (record { part = part; lot = lot; moisture = moisture; quantity = quantity; effective = minute }) else None) ≡ Some receipt → 1 ≤ receipt.quantity
        here true is = let it = ap (λ o. option_map_or (λ (r : Receipt). r.quantity) o 0) is in omega (arith, it, range.4.0)
        here false is = cc
    of _ minute range is = cc

    by : (said : Option Receipt) → receipt_by reel e.effective e.stamped.command ≡ said → option_or said (receipt_of H reel) ≡ Some receipt
        → (receipt_of H reel ≡ Some receipt → 1 ≤ receipt.quantity) → 1 ≤ receipt.quantity
    by (Some r) says is before = of e.stamped.command e.effective next.in_range.stamped.command (says ∙ is)
    by None says is before = before is

quantity-some : (o : Option Receipt) → is_some o ≡ true → ((r : Receipt) → o ≡ Some r → 1 ≤ r.quantity) → 0 < option_map_or (λ (r : Receipt). r.quantity) o 0
quantity-some None is all = cc
quantity-some (Some r) is all = omega (arith, all r refl)

one-origin : (o p : Option Receipt) → is_some o ≡ true → is_some p ≡ true → option_map_or (λ (r : Receipt). r.part) o [] ≡ option_map_or (λ (r : Receipt). r.part) p []
    → option_map_or (λ (r : Receipt). r.lot) o [] ≡ option_map_or (λ (r : Receipt). r.lot) p [] → option_map origin o ≡ option_map origin p
one-origin None p in_o in_p part lot = cc
one-origin (Some r) None in_o in_p part lot = cc
one-origin (Some r) (Some q) in_o in_p part lot = λ j. Some (part j, lot j)

-- A carried reel keeps its part and lot.
carried-origin : (G H : History) (reel : Name) → Carries G H → IsJudged Two H → is_some (receipt_of H reel) ≡ true
    → option_map origin (receipt_of G reel) ≡ option_map origin (receipt_of H reel)
carried-origin G H reel carries judged is =
    let some = quantity-some (receipt_of H reel) is (λ r one. received-some H reel r judged one) in
    let left = carries.quantities reel is in
    let it = carries.alike.reels reel (omega (arith, some, left)) in
    one-origin (receipt_of G reel) (receipt_of H reel) (carries.alike.reels_known reel is) is it.part it.lot

origin-over : (file : DeskFile) (older : List DeskFile) (reel : Name) → IsChain (file ∷ older)
    → option_map origin (receipt_over (file ∷ older) reel) ≡ option_map origin (receipt_of file.whole reel)
origin-over file [] reel (by_rules, begins, follows, rest) = by (is_some (receipt_of file.begun reel)) refl
  where
    by : (b : Bool) → is_some (receipt_of file.begun reel) ≡ b
        → option_map origin (if b then None else receipt_of file.whole reel) ≡ option_map origin (receipt_of file.whole reel)
    by true is = let no = sym is ∙ ap (λ H. is_some (receipt_of H reel)) follows in cc
    by false is = refl
origin-over file (before ∷ older) reel (by_rules, begins, follows, rest) = by (is_some (receipt_of file.begun reel)) refl (origin-over before older reel rest)
  where
    judged : IsJudged Two file.whole
    judged = judged-by-two file.rules file.whole by_rules

    by : (b : Bool) → is_some (receipt_of file.begun reel) ≡ b
        → option_map origin (receipt_over (before ∷ older) reel) ≡ option_map origin (receipt_of before.whole reel)
        → option_map origin (if b then receipt_over (before ∷ older) reel else receipt_of file.whole reel) ≡ option_map origin (receipt_of file.whole reel)
    by true is rest =
        rest
        ∙ carried-origin before.whole file.begun reel follows (judged-prefix file.begun file.whole begins judged) is
        ∙ sym (ap (option_map origin) (receipt-prefix file.begun file.whole reel begins judged is))
    by false is rest = refl

-- ---- placements

placed-origin : (H : History) (p : Placement) → IsJudged Two H → IsRightlyPlaced H p → option_map origin (receipt_of H p.reel) ≡ Some (p.part, p.lot)
placed-origin H p judged right =
    ap (option_map origin) (
    receipt-prefix right.before H p.reel
    (right.accepted.0 ++ right.entry ∷ [], right.accepted.1 ∙ sym (append_assoc right.accepted.0 (right.entry ∷ []) right.before)) judged (ap is_some right.received)
    ∙ right.received)
    ∙ sym (λ j. Some (right.part j, right.lot j))

pub pieces-origin : (file : DeskFile) (older : List DeskFile) → IsChain (file ∷ older)
    → All (λ (p : Placement). option_map origin (receipt_over (file ∷ older) p.reel) ≡ Some (p.part, p.lot)) (placements_of file.whole)
pieces-origin file older chain =
    let judged = judged-by-two file.rules file.whole chain.0 in
    λ k d lt.
    origin-over file older (slice_index_or (placements_of file.whole) k d).reel chain
    ∙ placed-origin file.whole (slice_index_or (placements_of file.whole) k d) judged (rightly-placed file.whole judged k d lt)

-- ---- recall

lot-of-origin : (o : Option Receipt) (part lot : Name) → option_map origin o ≡ Some (part, lot) → option_map_or (λ (r : Receipt). r.lot) o [] ≡ lot
lot-of-origin None part lot is = cc
lot-of-origin (Some r) part lot is = ap (λ o. option_map_or (λ (p, l). l) o r.lot) is

any-mapped : {X Y : Type 0} (f g : X → Y) (test : Y → Bool) (xs : List X) → All (λ x. f x ≡ g x) xs → list_any test (map f xs) ≡ list_any (λ x. test (g x)) xs
any-mapped f g test [] all = refl
any-mapped f g test (x ∷ xs) all =
    let first = All-head (λ y. f y ≡ g y) x xs all in
    let rest = any-mapped f g test xs (All-tail (λ y. f y ≡ g y) x xs all) in
    λ j. test (first j) || rest j

-- Whether a placed piece of the chain passes a test of its board and its lot.
any-over : (test : Name × Name → Bool) (files : List DeskFile) → IsChain files
    → list_any test (pieces_over files) ≡ list_any (λ (f : DeskFile). list_any (λ (p : Placement). test (p.board, p.lot)) (placements_of f.whole)) files
any-over test [] chain = refl
any-over test (file ∷ older) chain =
    let own = any-mapped (λ (p : Placement). (p.board, lot_over (file ∷ older) p.reel)) (λ (p : Placement). (p.board, p.lot)) test (placements_of file.whole) (
    λ k d lt.
    ap (λ lot. ((slice_index_or (placements_of file.whole) k d).board, lot))
    (lot-of-origin (receipt_over (file ∷ older) (slice_index_or (placements_of file.whole) k d).reel) _ _ (pieces-origin file older chain k d lt))) in
    let rest = any-over test older chain.3 in
    list_any-append test (map (λ (p : Placement). (p.board, lot_over (file ∷ older) p.reel)) (placements_of file.whole)) (pieces_over older) ∙ (λ j. own j || rest j)

has-boards : (files : List DeskFile) (lot board : Name) → IsChain files → has (boards_over files lot) board ≡ list_any (λ (f : DeskFile). has (boards_of f.whole lot) board) files
has-boards files lot board chain =
    has-set _ board
    ∙ has-read (λ (b, l). b) (λ (b, l). same l lot) (pieces_over files) board
    ∙ any-over (λ (b, l). same l lot && same board b) files chain
    ∙ list_any-same (λ (f : DeskFile). list_any (λ (p : Placement). same p.lot lot && same board p.board) (placements_of f.whole)) (λ f. has (boards_of f.whole lot) board)
    (λ f. sym (has-set _ board ∙ has-read (λ (p : Placement). p.board) (λ p. same p.lot lot) (placements_of f.whole) board)) files

has-lots : (files : List DeskFile) (board lot : Name) → has (lots_over files board) lot ≡ has (boards_over files lot) board
has-lots files board lot =
    has-set _ lot
    ∙ has-read (λ (b, l). l) (λ (b, l). same b board) (pieces_over files) lot
    ∙ list_any-same (λ ((b, l) : Name × Name). same b board && same lot l) (λ (b, l). same l lot && same board b)
    (λ (b, l). and_comm (same b board) (same lot l) ∙ (λ j. same-sym lot l j && same-sym b board j)) (pieces_over files)
    ∙ sym (has-read (λ (b, l). b) (λ (b, l). same l lot) (pieces_over files) board)
    ∙ sym (has-set _ board)

pub boards-union : (files : List DeskFile) (lot board : Name) → IsChain files → Contains (boards_over files lot) board ↔ Any (λ (f : DeskFile). Contains (boards_of f.whole lot) board) files
boards-union files lot board chain = (
  λ there.
      let some = Any-from_list_any (λ (f : DeskFile). has (boards_of f.whole lot) board) files (sym (has-boards files lot board chain) ∙ has-from (boards_over files lot) board there) in
      (some.0, some.1, some.2, some.3, from-has (boards_of some.1.whole lot) board some.4),
  λ some.
      from-has (boards_over files lot) board (
      has-boards files lot board chain
      ∙ list_any-from_Any (λ (f : DeskFile). has (boards_of f.whole lot) board) files (some.0, some.1, some.2, some.3, has-from (boards_of some.1.whole lot) board some.4)),
)

pub over-converse : (files : List DeskFile) (board lot : Name) → Contains (lots_over files board) lot ↔ Contains (boards_over files lot) board
over-converse files board lot = (
  λ there. from-has (boards_over files lot) board (sym (has-lots files board lot) ∙ has-from (lots_over files board) lot there),
  λ there. from-has (lots_over files board) lot (has-lots files board lot ∙ has-from (boards_over files lot) board there),
)

pub lots-union : (files : List DeskFile) (board lot : Name) → IsChain files → Contains (lots_over files board) lot ↔ Any (λ (f : DeskFile). Contains (lots_of f.whole board) lot) files
lots-union files board lot chain = (
  λ there.
      let some = (boards-union files lot board chain).0 ((over-converse files board lot).0 there) in
      (some.0, some.1, some.2, some.3, (traces-converse some.1.whole board lot).1 some.4),
  λ some.
      (over-converse files board lot).1 (
      (boards-union files lot board chain).1 (some.0, some.1, some.2, some.3, (traces-converse some.1.whole board lot).0 some.4)),
)
