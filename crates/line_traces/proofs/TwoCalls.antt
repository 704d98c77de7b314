-- The combined results of two calls.
use Rattle.desk_types.proofs.Common.{[], ◌∙◌, ◌∷◌, ◌≡◌, ap, ap₂, Basis, Bool, false, History, if◌then◌else◌}
use Rattle.desk_types.proofs.Common.{List, map, Name, None, Option, refl, Some, sym, true}
use Rattle.desk_laws.proofs.Common.{Placement}
use Rattle.line_tables.proofs.Common.{flag, Row, State}
use Rattle.line_traces.specs.{Committed.FindsOfList, Committed.name_row, Committed.placed_columns}
use Rattle.line_traces.specs.{Working.FindsOfBoth, declared.working.Working.Working}

-- ---- rows

pub one-flag : (b c : Bool) → flag b ≡ flag c → b ≡ c
one-flag true true is = refl
one-flag false false is = refl
one-flag true false is = cc
one-flag false true is = cc

placed_columns-one : (p q : Placement) → placed_columns p ≡ placed_columns q → p ≡ q
placed_columns-one p q is =
    let number : p.number ≡ q.number = cc in
    let place : p.place ≡ q.place = cc in
    let board : p.board ≡ q.board = cc in
    let designator : p.designator ≡ q.designator = cc in
    let part : p.part ≡ q.part = cc in
    let lot : p.lot ≡ q.lot = cc in
    let reel : p.reel ≡ q.reel = cc in
    let machine : p.machine ≡ q.machine = cc in
    let slot : p.slot ≡ q.slot = cc in
    let effective : p.effective ≡ q.effective = cc in
    let late : flag p.overdue ≡ flag q.overdue = cc in
    let overdue = one-flag p.overdue q.overdue late in
    λ j. record {
      number = number j;
      place = place j;
      board = board j;
      designator = designator j;
      part = part j;
      lot = lot j;
      reel = reel j;
      machine = machine j;
      slot = slot j;
      effective = effective j;
      overdue = overdue j;
    }

placed_columns-name : (a b : Name) → name_row a ≡ name_row b → a ≡ b
placed_columns-name a b is = cc

pub all-placed_columns : {X Y : Type 0} (show : X → Y) → ((x y : X) → show x ≡ show y → x ≡ y) → (xs ys : List X) → map show xs ≡ map show ys → xs ≡ ys
all-placed_columns show one [] [] is = refl
all-placed_columns show one [] (y ∷ ys) is = cc
all-placed_columns show one (x ∷ xs) [] is = cc
all-placed_columns show one (x ∷ xs) (y ∷ ys) is =
    let first : show x ≡ show y = cc in
    let rest : map show xs ≡ map show ys = cc in
    ap₂ (λ z zs. z ∷ zs) (one x y first) (all-placed_columns show one xs ys rest)

-- ---- calls

placed_columns-told : {X : Type 0} (show : X → Row) → ((x y : X) → show x ≡ show y → x ≡ y) → (of : History → List X) (old : State) (rows : List Row) (found : List X) → FindsOfList (λ H. map show (of H)) old rows
    → rows ≡ map show found → FindsOfList of old found
placed_columns-told show one of old rows found told is = record { was_open = told.was_open; are = λ schema H held. all-placed_columns show one found (of H) (sym is ∙ told.are schema H held) }

pub pieces-told : (of : History → List Placement) (old : State) (rows : List Row) (pieces : List Placement) → FindsOfList (λ H. map placed_columns (of H)) old rows → rows ≡ map placed_columns pieces → FindsOfList of old pieces
pieces-told = placed_columns-told placed_columns placed_columns-one

pub names-told : (of : History → List Name) (old : State) (rows : List Row) (names : List Name) → FindsOfList (λ H. map name_row (of H)) old rows → rows ≡ map name_row names → FindsOfList of old names
names-told = placed_columns-told name_row placed_columns-name

-- ---- with a working state

module _ {D X : Type 0} (Stands : D → Basis → Type 0) (working : Option (Working D)) (of : History → X) (old : State) where
  -- The facts that follow from the tables alone.
  pub told-of-both : (found : X) → FindsOfList of old found → FindsOfBoth Stands working of old found
  told-of-both found told = record { was_open = told.was_open; are = λ schema H both. told.are schema H both.held }

  pub there-told : (test : History → Bool) (found : X) → FindsOfList test old true → FindsOfBoth Stands working of old found → FindsOfBoth Stands working (λ H. if test H then Some (of H) else None) old (Some found)
  there-told test found holds told = record {
    was_open = told.was_open;
    are = λ schema H both. ap Some (told.are schema H both) ∙ ap (λ b. if b then Some (of H) else None) (holds.are schema H both.held);
  }

  pub none-told : (test : History → Bool) → FindsOfList test old false → FindsOfBoth Stands working (λ H. if test H then Some (of H) else None) old None
  none-told test fails = record { was_open = fails.was_open; are = λ schema H both. ap (λ b. if b then Some (of H) else None) (fails.are schema H both.held) }
