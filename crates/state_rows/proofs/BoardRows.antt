-- Boards in work, and the row of a board after one entry more.
use Rattle.desk_types.proofs.Common.{[], ◌∙◌, ◌∷◌, ◌≡◌, ap, board_row, Bool, command_refusal, differ, false}
use Rattle.desk_types.proofs.Common.{History, if◌then◌else◌, in_work_on, is_in_work, is_in_work_on, is_none}
use Rattle.desk_types.proofs.Common.{is_some, IsJudged, latest, Name, None, not, Option, option_and_then}
use Rattle.desk_types.proofs.Common.{option_map, option_map_or, option_or, product_of, refl, same, same-refl}
use Rattle.desk_types.proofs.Common.{same-sym, same-true, selected_on, selection_by, selection_refusal}
use Rattle.desk_types.proofs.Common.{sheet_of, Some, start_by, sym, true, unwrap_or, work_by, ℕ}
use Rattle.desk_laws.proofs.Common.{BoardRow, Command, Entry, MachineBusy, ProductSelected, Two}
use Rattle.desk_laws.proofs.Common.{WorkCompleted, WorkStarted}
use Rattle.desk_laws.proofs.{Accepted.next-accepted, Accepted.none-holds, BoardsInWork.completable}
use Rattle.desk_laws.proofs.{BoardsInWork.IsStartable, BoardsInWork.startable, Lookups.somewhere-in_work}
use Rattle.desk_types.specs.declared.answer.Refusal.TheVariants.{UnknownSheet}
use Rattle.state_rows.specs.After.{board_after}

selectable : (H : History) (machine product : Name) → selection_refusal H machine product ≡ None → is_some (in_work_on H machine) ≡ false
unfolding selection_refusal
selectable H machine product none =
    (none-holds ((is_none (sheet_of H product machine), UnknownSheet product) ∷ (is_some (in_work_on H machine), MachineBusy machine) ∷ []) none).1.0

-- ---- boards in work

abbrev pub last_start : History → Name → Option Name
last_start H board = latest (λ e. start_by board e.stamped.command) H

pub on-is : (at : Option Name) (board : Name) → option_map_or (same board) at false ≡ true → at ≡ Some board
on-is None board is = cc
on-is (Some b) board is = ap (λ x. Some x) (sym (same-true board b is))

-- The board was last started on the machine, and its product is the one that is selected there.
pub record AreWorking (last selected made : Option Name) (machine : Name) : Type 0 where
  pub there : last ≡ Some machine
  pub product : Name
  pub is_selected : selected ≡ Some product
  pub is_made : made ≡ Some product

abbrev pub IsWorking : History → Name → Name → Type 0
IsWorking H machine board = AreWorking (last_start H board) (selected_on H machine) (product_of H board) machine

kept : (had more : Option Name) (product : Name) → had ≡ Some product → option_or had more ≡ Some product
kept had more product is = ap (λ o. option_or o more) is

agreed : (made selected : Option Name) (product : Name) → selected ≡ Some product → differ made selected ≡ false → option_or made selected ≡ Some product
agreed None selected product is same_one = is
agreed (Some q) selected product is same_one = by (same q product) refl (sym (ap (differ (Some q)) is) ∙ same_one)
  where
    by : (b : Bool) → same q product ≡ b → not b ≡ false → Some q ≡ Some product
    by true here agree = ap Some (same-true q product here)
    by false here agree = cc

pub some-of : (o : Option Name) → is_none o ≡ false → (x : Name) × (o ≡ Some x)
some-of None some = cc
some-of (Some x) some = (x, refl)

idle-off : (working : Option Name) (board : Name) → is_some working ≡ false → option_map_or (same board) working false ≡ false
idle-off None board idle = refl
idle-off (Some x) board idle = cc

working-step : (H : History) (minute : ℕ) (machine board : Name) (command : Command) → command_refusal Two H minute command ≡ None
    → (is_in_work_on H machine board ≡ true → IsWorking H machine board)
    → option_map_or (same board) (unwrap_or (option_or (work_by machine command) (latest (λ (e : Entry). work_by machine e.stamped.command) H)) None) false ≡ true
    → AreWorking (option_or (start_by board command) (last_start H board)) (option_or (selection_by machine command) (selected_on H machine))
    (option_or (product_of H board) (option_and_then (selected_on H) (start_by board command))) machine
unfolding command_refusal
working-step H minute machine board (ProductSelected m p) accepted before working = by (same m machine) refl
  where
    w : IsWorking H machine board
    w = before working

    by : (b : Bool) → same m machine ≡ b
        → AreWorking (last_start H board) (option_or (if b then Some p else None) (selected_on H machine)) (option_or (product_of H board) None) machine
    by true here =
        let idle = idle-off (in_work_on H machine) board (sym (ap (λ x. is_some (in_work_on H x)) (same-true m machine here)) ∙ selectable H m p accepted) in cc
    by false here = record { there = w.there; product = w.product; is_selected = w.is_selected; is_made = kept _ None w.product w.is_made }
working-step H minute machine board (WorkStarted m b) accepted before working = by (same m machine) refl working
  where
    tests : IsStartable H m b
    tests = startable H minute m b accepted

    on : (c : Bool) → same b board ≡ c → is_in_work_on H machine board ≡ true
        → AreWorking (option_or (if c then Some m else None) (last_start H board)) (selected_on H machine)
        (option_or (product_of H board) (option_and_then (selected_on H) (if c then Some m else None))) machine
    on true here working =
        let busy = somewhere-in_work H board (machine, on-is (in_work_on H machine) board working) in
        let rest = sym (ap (is_in_work H) (same-true b board here)) ∙ tests.board_free in
        cc
    on false here working =
        let w = before working in record { there = w.there; product = w.product; is_selected = w.is_selected; is_made = kept _ None w.product w.is_made }

    begun : (c : Bool) → same b board ≡ c → same board b ≡ true → same m machine ≡ true
        → AreWorking (option_or (if c then Some m else None) (last_start H board)) (selected_on H machine)
        (option_or (product_of H board) (option_and_then (selected_on H) (if c then Some m else None))) machine
    begun true here other at =
        let one = same-true m machine at in
        let chosen = some-of (selected_on H m) tests.selected in
        record {
          there = ap Some one;
          product = chosen.0;
          is_selected = sym (ap (selected_on H) one) ∙ chosen.1;
          is_made = agreed (product_of H board) (selected_on H m) chosen.0 chosen.1 (sym (ap (λ x. differ (product_of H x) (selected_on H m)) (same-true b board here)) ∙ tests.same_product);
        }
    begun false here other at = let flip = same-sym b board in cc

    by : (c : Bool) → same m machine ≡ c
        → option_map_or (same board) (unwrap_or (option_or (if c then Some (Some b) else None) (latest (λ (e : Entry). work_by machine e.stamped.command) H)) None) false ≡ true
        → AreWorking (option_or (if same b board then Some m else None) (last_start H board)) (selected_on H machine)
        (option_or (product_of H board) (option_and_then (selected_on H) (if same b board then Some m else None))) machine
    by true at working = begun (same b board) refl working at
    by false at working = on (same b board) refl working
working-step H minute machine board (WorkCompleted m b) accepted before working = by (same m machine) working
  where
    by : (c : Bool)
        → option_map_or (same board) (unwrap_or (option_or (if c then Some None else None) (latest (λ (e : Entry). work_by machine e.stamped.command) H)) None) false ≡ true
        → AreWorking (last_start H board) (selected_on H machine) (option_or (product_of H board) None) machine
    by true working = cc
    by false working =
        let w = before working in record { there = w.there; product = w.product; is_selected = w.is_selected; is_made = kept _ None w.product w.is_made }
working-step H minute machine board _ accepted before working =
    let w = before working in record { there = w.there; product = w.product; is_selected = w.is_selected; is_made = kept _ None w.product w.is_made }

-- A board in work on a machine was last started there, and is of the product that is selected there.
pub working : (H : History) (machine board : Name) → IsJudged Two H → is_in_work_on H machine board ≡ true → IsWorking H machine board
working [] machine board judged is = cc
working (e ∷ H) machine board (next, judged) is =
    working-step H e.effective machine board e.stamped.command (next-accepted H e next) (working H machine board judged) is

-- ---- rows

or-nothing : (o : Option Name) → option_or o None ≡ o
or-nothing None = refl
or-nothing (Some x) = refl

unmoved : (H : History) (board : Name) (test : Name → Bool) → ((m : Name) → test m ≡ is_in_work_on H m board)
    → option_map (λ product. record { board = board; product = product; machine = option_and_then (λ m. if test m then Some m else None) (last_start H board) }) (option_or (product_of H board) None)
    ≡ board_row H board
unmoved H board test agree =
    ap (option_map (λ product. record { board = board; product = product; machine = option_and_then (λ m. if test m then Some m else None) (last_start H board) })) (or-nothing (product_of H board))
    ∙ ap (λ (t : Name → Bool). option_map (λ product. record { board = board; product = product; machine = option_and_then (λ m. if t m then Some m else None) (last_start H board) }) (product_of H board)) (λ j m. agree m j)

row-step : (H : History) (minute : ℕ) (board : Name) (command : Command) → IsJudged Two H → command_refusal Two H minute command ≡ None
    → option_map (λ product. record {
      board = board;
      product = product;
      machine =
          option_and_then (λ m. if option_map_or (same board) (unwrap_or (option_or (work_by m command) (latest (λ (e : Entry). work_by m e.stamped.command) H)) None) false then Some m else None)
          (option_or (start_by board command) (last_start H board));
    }) (option_or (product_of H board) (option_and_then (selected_on H) (start_by board command)))
    ≡ board_after (selected_on H) board command (board_row H board)
unfolding command_refusal
row-step H minute board (WorkStarted m b) judged accepted = by (same b board) refl
  where
    tests : IsStartable H m b
    tests = startable H minute m b accepted

    test : Name → Bool
    test m' = option_map_or (same board) (unwrap_or (option_or (if same m m' then Some (Some b) else None) (latest (λ (e : Entry). work_by m' e.stamped.command) H)) None) false

    row : Option Name → Name → BoardRow
    row machine product = record { board = board; product = product; machine = machine }

    there : same board b ≡ true → test m ≡ true
    there is = ap (λ c. option_map_or (same board) (unwrap_or (option_or (if c then Some (Some b) else None) (latest (λ (e : Entry). work_by m e.stamped.command) H)) None) false) (same-refl m) ∙ is

    elsewhere : same board b ≡ false → (m' : Name) → test m' ≡ is_in_work_on H m' board
    elsewhere other m' = at (same m m') refl
      where
        at : (c : Bool) → same m m' ≡ c
            → option_map_or (same board) (unwrap_or (option_or (if c then Some (Some b) else None) (latest (λ (e : Entry). work_by m' e.stamped.command) H)) None) false ≡ is_in_work_on H m' board
        at true here = other ∙ sym (idle-off (in_work_on H m') board (sym (ap (λ x. is_some (in_work_on H x)) (same-true m m' here)) ∙ tests.machine_free))
        at false here = refl

    by : (c : Bool) → same b board ≡ c
        → option_map (λ product. row (option_and_then (λ m'. if test m' then Some m' else None) (option_or (if c then Some m else None) (last_start H board))) product)
        (option_or (product_of H board) (option_and_then (selected_on H) (if c then Some m else None)))
        ≡ if c then option_map (row (Some m)) (selected_on H m) else board_row H board
    by true here =
        let chosen = some-of (selected_on H m) tests.selected in
        ap (λ c. option_map (row (if c then Some m else None)) (option_or (product_of H board) (selected_on H m))) (there (same-sym board b ∙ here))
        ∙ ap (option_map (row (Some m)))
        (agreed (product_of H board) (selected_on H m) chosen.0 chosen.1 (sym (ap (λ x. differ (product_of H x) (selected_on H m)) (same-true b board here)) ∙ tests.same_product) ∙ sym chosen.1)
    by false here = unmoved H board test (elsewhere (same-sym board b ∙ here))
row-step H minute board (WorkCompleted m b) judged accepted = by (same b board) refl
  where
    at_work : is_in_work_on H m b ≡ true
    at_work = ap (λ o. option_map_or (same b) o false) (completable H m b accepted) ∙ same-refl b

    test : Name → Bool
    test m' = option_map_or (same board) (unwrap_or (option_or (if same m m' then Some None else None) (latest (λ (e : Entry). work_by m' e.stamped.command) H)) None) false

    row : Option Name → Name → BoardRow
    row machine product = record { board = board; product = product; machine = machine }

    off : test m ≡ false
    off = ap (λ c. option_map_or (same board) (unwrap_or (option_or (if c then Some None else None) (latest (λ (e : Entry). work_by m e.stamped.command) H)) None) false) (same-refl m)

    one : (w : Option Name) → option_map_or (same b) w false ≡ true → same b board ≡ false → option_map_or (same board) w false ≡ false
    one None is other = refl
    one (Some x) is other = ap (same board) (sym (same-true b x is)) ∙ same-sym board b ∙ other

    elsewhere : same b board ≡ false → (m' : Name) → test m' ≡ is_in_work_on H m' board
    elsewhere other m' = at (same m m') refl
      where
        at : (c : Bool) → same m m' ≡ c
            → option_map_or (same board) (unwrap_or (option_or (if c then Some None else None) (latest (λ (e : Entry). work_by m' e.stamped.command) H)) None) false ≡ is_in_work_on H m' board
        at true here = sym (one (in_work_on H m') (ap (λ x. is_in_work_on H x b) (sym (same-true m m' here)) ∙ at_work) other)
        at false here = refl

    by : (c : Bool) → same b board ≡ c
        → option_map (λ product. row (option_and_then (λ m'. if test m' then Some m' else None) (last_start H board)) product) (option_or (product_of H board) None)
        ≡ if c then option_map (row None) (selected_on H m) else board_row H board
    by true here =
        let w = working H m board judged (ap (is_in_work_on H m) (sym (same-true b board here)) ∙ at_work) in
        ap (λ o. option_map (row (option_and_then (λ m'. if test m' then Some m' else None) o)) (option_or (product_of H board) None)) w.there
        ∙ ap (λ c. option_map (row (if c then Some m else None)) (option_or (product_of H board) None)) off
        ∙ ap (option_map (row None)) (kept _ None w.product w.is_made ∙ sym w.is_selected)
    by false here = unmoved H board test (elsewhere here)
row-step H minute board _ judged accepted = unmoved H board (λ m. is_in_work_on H m board) (λ m. refl)

pub board_row-next : (H : History) (e : Entry) (board : Name) → IsJudged Two (e ∷ H)
    → board_row (e ∷ H) board ≡ board_after (selected_on H) board e.stamped.command (board_row H board)
board_row-next H e board (next, judged) = row-step H e.effective board e.stamped.command judged (next-accepted H e next)
