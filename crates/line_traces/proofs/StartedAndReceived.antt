-- The started boards and the received lots, by the rows of their tables.
use Rattle.desk_types.proofs.Common.{[], ◌==◌, ◌||◌, ◌∙◌, ◌∷◌, ◌≡◌, AllByRecursion, ap, Bool, both_ways}
use Rattle.desk_types.proofs.Common.{columns_of, command_refusal, false, filter, History, if◌then◌else◌}
use Rattle.desk_types.proofs.Common.{is_none, is_some, IsJudged, IsTrue, length, List, Name, None, not}
use Rattle.desk_types.proofs.Common.{Option, option_and_then, option_map, option_or, option_to_list}
use Rattle.desk_types.proofs.Common.{product_of, receipt_by, receipt_of, refl, same, same-refl, selected_on}
use Rattle.desk_types.proofs.Common.{Some, start_by, subst, sym, true, view_of, work_machine, ℕ}
use Rattle.desk_laws.proofs.Common.{Command, Receipt, ReelReceived, ReelRow, Two, WorkStarted}
use Rattle.line_tables.proofs.Common.{Database, has_text, reel_columns, Row, rows_in}
use Rattle.desk_laws.proofs.{Accepted.next-accepted, BoardsInWork.startable, ReelsLater.receipt-prefix}
use Rattle.line_tables.specs.StateRows.{board_columns}
use Rattle.line_traces.proofs.Columns.{equal-text}
use Rattle.line_traces.specs.{Committed.HoldsList, Pieces.is_board, Pieces.is_lot, Pieces.receives}
use Rattle.line_traces.specs.{Pieces.starts}
use Rattle.std.proofs.Math.Dec.{eqb-suc-zero}
use Rattle.line_tables.specs.Line as line

-- ---- lists

abbrev pub is_any : {A : Type 0} → List A → Bool
is_any xs = not (length xs == 0)

any-first : {A : Type 0} (x : A) (xs : List A) → is_any (x ∷ xs) ≡ true
any-first x xs = ap not (eqb-suc-zero (length xs))

module _ {A : Type 0} (p q : A → Bool) where
  some-pass : (xs : List A) (y : A) (ys : List A) → filter p xs ≡ y ∷ ys → q y ≡ true → is_any (filter q xs) ≡ true
  some-pass [] y ys is passes = cc
  some-pass (x ∷ xs) y ys is passes = by (p x) (q x) refl is (λ rest. some-pass xs y ys rest passes)
    where
      by : (a b : Bool) → q x ≡ b → (if a then x ∷ filter p xs else filter p xs) ≡ y ∷ ys → (filter p xs ≡ y ∷ ys → is_any (filter q xs) ≡ true)
          → is_any (if b then x ∷ filter q xs else filter q xs) ≡ true
      by a true second is rest = any-first x (filter q xs)
      by true false second is rest = let one : x ≡ y = cc in let there = ap q one in cc
      by false false second is rest = rest is

tells-so : {A : Type 0} (q : A → Bool) (c : Bool) (xs : List A) → AllByRecursion (λ x. q x ≡ true → c ≡ true) xs → is_any (filter q xs) ≡ true → c ≡ true
tells-so q c [] all some = cc
tells-so q c (x ∷ xs) (first, all) some = by (q x) refl some (tells-so q c xs all)
  where
    by : (b : Bool) → q x ≡ b → is_any (if b then x ∷ filter q xs else filter q xs) ≡ true → (is_any (filter q xs) ≡ true → c ≡ true) → c ≡ true
    by true is some rest = first is
    by false is some rest = rest some

by-keys : {A K : Type 0} (has : K → A → Bool) (Q : A → Type 0) (xs : List A) → ((k : K) → AllByRecursion Q (filter (has k) xs)) → AllByRecursion (λ x. (k : K) × IsTrue (has k x)) xs → AllByRecursion Q xs
by-keys has Q [] each keyed = tt
by-keys {A} {K} has Q (x ∷ xs) each (key, keyed) = (first (has key.0 x) refl (each key.0), by-keys has Q xs (λ k. rest k (has k x) (each k)) keyed)
  where
    first : (b : Bool) → has key.0 x ≡ b → AllByRecursion Q (if b then x ∷ filter (has key.0) xs else filter (has key.0) xs) → Q x
    first true is all = all.0
    first false is all = let passes = key.1 in cc

    rest : (k : K) (b : Bool) → AllByRecursion Q (if b then x ∷ filter (has k) xs else filter (has k) xs) → AllByRecursion Q (filter (has k) xs)
    rest k true all = all.1
    rest k false all = all

-- ---- boards

or-some : {X : Type 0} (o : Option X) → is_some (option_or o None) ≡ is_some o
or-some None = refl
or-some (Some x) = refl

started-step : (H : History) (minute : ℕ) (board : Name) (command : Command) → command_refusal Two H minute command ≡ None
    → is_some (option_or (product_of H board) (option_and_then (selected_on H) (start_by board command))) ≡ (starts board command || is_some (product_of H board))
unfolding command_refusal
started-step H minute board (WorkStarted m b) accepted = by (same b board)
  where
    last : (made selected : Option Name) → is_none selected ≡ false → is_some (option_or made selected) ≡ true
    last (Some p) selected some = refl
    last None (Some p) some = refl
    last None None some = cc

    by : (c : Bool) → is_some (option_or (product_of H board) (option_and_then (selected_on H) (if c then Some m else None))) ≡ (c || is_some (product_of H board))
    by true = last (product_of H board) (selected_on H m) (startable H minute m b accepted).selected
    by false = or-some (product_of H board)
started-step H minute board _ accepted = or-some (product_of H board)

pub board-started : (H : History) (board : Name) → IsJudged Two H → is_some (product_of H board) ≡ is_board H board
board-started [] board judged = refl
board-started (e ∷ H) board (next, judged) =
    started-step H e.effective board e.stamped.command (next-accepted H e next) ∙ ap (λ b. starts board e.stamped.command || b) (board-started H board judged)

pub board-named : (db : Database) (H : History) → HoldsList db H → (board : Name) → is_any (filter (has_text 0 board) (rows_in line.board db)) ≡ is_board H board
board-named db H held board = ap is_any (held.state.boards.found board) ∙ by (product_of H board) (work_machine H board) ∙ board-started H board held.judged
  where
    by : (product machine : Option Name)
        → is_any (option_to_list (option_map board_columns (option_map (λ (p : Name). record { board = board; product = p; machine = machine }) product))) ≡ is_some product
    by None machine = refl
    by (Some p) machine = refl

-- ---- lots

pub receipt-lot : (H : History) (reel lot : Name) (receipt : Receipt) → receipt_of H reel ≡ Some receipt → same receipt.lot lot ≡ true → is_lot H lot ≡ true
receipt-lot [] reel lot receipt is here = cc
receipt-lot (e ∷ H) reel lot receipt is here = by e.stamped.command is (λ before. receipt-lot H reel lot receipt before here)
  where
    later : (b : Bool) → is_lot H lot ≡ true → (b || is_lot H lot) ≡ true
    later true its = refl
    later false its = its

    by : (command : Command) → option_or (receipt_by reel e.effective command) (receipt_of H reel) ≡ Some receipt → (receipt_of H reel ≡ Some receipt → is_lot H lot ≡ true) → (receives lot command || is_lot H lot) ≡ true
    by (ReelReceived r part l moisture quantity) is before = one (same r reel) is
      where
        one : (b : Bool) → option_or (if b then Some (record { part = part; lot = l; moisture = moisture; quantity = quantity; effective = e.effective }) else None) (receipt_of H reel) ≡ Some receipt
            → (same l lot || is_lot H lot) ≡ true
        one true is = let whose : l ≡ receipt.lot = cc in ap (λ n. same n lot || is_lot H lot) whose ∙ ap (λ b. b || is_lot H lot) here
        one false is = later (same l lot) (before is)
    by _ is before = before is

-- A reel of the lot, with its receipt.
pub record HasReel (H : History) (lot : Name) : Type 0 where
  pub reel : Name
  pub receipt : Receipt
  pub received : receipt_of H reel ≡ Some receipt
  pub is_its : same receipt.lot lot ≡ true

lot-reel : (H : History) (lot : Name) → IsJudged Two H → is_lot H lot ≡ true → HasReel H lot
lot-reel [] lot judged is = cc
lot-reel (e ∷ H) lot (next, judged) is = by e.stamped.command refl is (λ before. older (lot-reel H lot judged before))
  where
    older : HasReel H lot → HasReel (e ∷ H) lot
    older had =
        record { reel = had.reel; receipt = had.receipt; received = receipt-prefix H (e ∷ H) had.reel (e ∷ [], refl) (next, judged) (rw had.received refl) ∙ had.received; is_its = had.is_its }

    by : (command : Command) → e.stamped.command ≡ command → (receives lot command || is_lot H lot) ≡ true → (is_lot H lot ≡ true → HasReel (e ∷ H) lot) → HasReel (e ∷ H) lot
    by (ReelReceived r part l moisture quantity) command is before = one (same l lot) refl is
      where
        one : (b : Bool) → same l lot ≡ b → (b || is_lot H lot) ≡ true → HasReel (e ∷ H) lot
        one true its is = record {
          reel = r;
          receipt = record { part = part; lot = l; moisture = moisture; quantity = quantity; effective = e.effective };
          received = ap (λ c. option_or (receipt_by r e.effective c) (receipt_of H r)) command ∙ ap (λ b. option_or (if b then Some (record { part = part; lot = l; moisture = moisture; quantity = quantity; effective = e.effective }) else None) (receipt_of H r)) (same-refl r);
          is_its = its;
        }
        one false its is = before is
    by _ command is before = before is

pub lot-named : (db : Database) (H : History) → HoldsList db H → (lot : Name) → is_any (filter (has_text 2 lot) (rows_in line.reel db)) ≡ is_lot H lot
lot-named db H held lot = both_ways _ _ there back
  where
    rows : List Row
    rows = rows_in line.reel db

    each : (reel : Name) (receipt : Option Receipt) → receipt_of H reel ≡ receipt
        → AllByRecursion (λ row. has_text 2 lot row ≡ true → is_lot H lot ≡ true) (option_to_list (option_map (λ (row : ReelRow). reel_columns row) (option_map columns_of (option_map (view_of H reel) receipt))))
    each reel None is = tt
    each reel (Some receipt) is = (λ its. receipt-lot H reel lot receipt is (sym (equal-text receipt.lot lot) ∙ its), tt)

    there : is_any (filter (has_text 2 lot) rows) ≡ true → is_lot H lot ≡ true
    there =
        tells-so (has_text 2 lot) (is_lot H lot) rows (
        by-keys (has_text 0) _ rows (λ reel. subst (AllByRecursion (λ row. has_text 2 lot row ≡ true → is_lot H lot ≡ true)) (sym (held.state.reels.found reel)) (each reel (receipt_of H reel) refl)) held.state.reels.keyed)

    back : is_lot H lot ≡ true → is_any (filter (has_text 2 lot) rows) ≡ true
    back is =
        let had = lot-reel H lot held.judged is in
        some-pass (has_text 0 had.reel) (has_text 2 lot) rows (reel_columns (columns_of (view_of H had.reel had.receipt))) []
        (held.state.reels.found had.reel ∙ ap (λ o. option_to_list (option_map (λ (row : ReelRow). reel_columns row) (option_map columns_of (option_map (view_of H had.reel) o)))) had.received)
        (equal-text had.receipt.lot lot ∙ had.is_its)
