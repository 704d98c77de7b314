-- Boards in work after one more entry.
use Rattle.desk_types.proofs.Common.{[], ◌∙◌, ◌∷◌, ◌≡◌, ap, Bool, both_ways, command_refusal}
use Rattle.desk_types.proofs.Common.{completion_refusal, differ, false, first_refusal, History, if◌then◌else◌}
use Rattle.desk_types.proofs.Common.{in_work_on, is_in_work, is_in_work_on, is_none, is_some, IsJudged}
use Rattle.desk_types.proofs.Common.{IsNext, latest, List, Name, None, not, not-false, Option}
use Rattle.desk_types.proofs.Common.{option_and_then, option_map_or, option_or, product_of, refl, same}
use Rattle.desk_types.proofs.Common.{same-refl, same-true, selected_on, Some, start_by, start_refusal, sym}
use Rattle.desk_types.proofs.Common.{true, unwrap_or, work_by, ℕ}
use Rattle.desk_laws.proofs.Common.{Command, Entry, MachineBusy, NoProduct, NotInWork, Refusal, Two}
use Rattle.desk_laws.proofs.Common.{WorkCompleted, WorkStarted}
use Rattle.desk_laws.proofs.{Accepted.next-accepted, Accepted.none-holds, Judgements.or-none}
use Rattle.desk_laws.proofs.{Lookups.in_work-somewhere, Lookups.somewhere-in_work}
use Rattle.desk_laws.specs.Working.{in_work_after}
use Rattle.desk_types.specs.declared.answer.Refusal.TheVariants.{BoardBusy, OtherProduct}

-- ---- tests

-- The tests of a start, except those of the machine's slots.
pub record IsStartable (H : History) (machine board : Name) : Type 0 where
  pub selected : is_none (selected_on H machine) ≡ false
  pub machine_free : is_some (in_work_on H machine) ≡ false
  pub board_free : is_in_work H board ≡ false
  pub same_product : differ (product_of H board) (selected_on H machine) ≡ false

pub startable : (H : History) (minute : ℕ) (machine board : Name) → start_refusal H minute machine board ≡ None → IsStartable H machine board
unfolding start_refusal
startable H minute machine board none =
    let all = none-holds tests (or-none (first_refusal tests) _ none).0 in
    record { selected = all.0; machine_free = all.1.0; board_free = all.1.1.0; same_product = all.1.1.1.0 }
  where
    tests : List (Bool × Refusal)
    tests =
        (is_none (selected_on H machine), NoProduct machine)
        ∷ (is_some (in_work_on H machine), MachineBusy machine)
        ∷ (is_in_work H board, BoardBusy board)
        ∷ (differ (product_of H board) (selected_on H machine), OtherProduct board)
        ∷ []

pub completable : (H : History) (machine board : Name) → completion_refusal H machine board ≡ None → in_work_on H machine ≡ Some board
unfolding completion_refusal
completable H machine board none = by (in_work_on H machine) (not-false _ (none-holds ((not (is_in_work_on H machine board), NotInWork board) ∷ []) none).0)
  where
    by : (at : Option Name) → option_map_or (same board) at false ≡ true → at ≡ Some board
    by None is = cc
    by (Some b) is = ap (λ x. Some x) (sym (same-true board b is))

-- ---- one more entry

pub work-next : (H : History) (e : Entry) (machine : Name) → in_work_on (e ∷ H) machine ≡ unwrap_or (work_by machine e.stamped.command) (in_work_on H machine)
work-next H e machine = by (work_by machine e.stamped.command)
  where
    by : (said : Option (Option Name)) → unwrap_or (option_or said (latest (λ x. work_by machine x.stamped.command) H)) None ≡ unwrap_or said (in_work_on H machine)
    by None = refl
    by (Some at) = refl

one-step : (H : History) (minute : ℕ) (m n board : Name) (command : Command) → command_refusal Two H minute command ≡ None
    → (in_work_on H m ≡ Some board → in_work_on H n ≡ Some board → m ≡ n)
    → unwrap_or (work_by m command) (in_work_on H m) ≡ Some board → unwrap_or (work_by n command) (in_work_on H n) ≡ Some board → m ≡ n
unfolding command_refusal
one-step H minute m n board (WorkStarted k b) accepted before on_m on_n = by (same k m) (same k n) refl refl on_m on_n
  where
    new : (machine : Name) → b ≡ board → in_work_on H machine ≡ Some board → ⊥
    new machine one on =
        let busy = somewhere-in_work H board (machine, on) in
        let free = (startable H minute k b accepted).board_free in
        let said = ap (is_in_work H) one in
        cc

    by : (s t : Bool) → same k m ≡ s → same k n ≡ t → unwrap_or (if s then Some (Some b) else None) (in_work_on H m) ≡ Some board
        → unwrap_or (if t then Some (Some b) else None) (in_work_on H n) ≡ Some board → m ≡ n
    by true true is_m is_n on_m on_n = sym (same-true k m is_m) ∙ same-true k n is_n
    by true false is_m is_n on_m on_n = let one : b ≡ board = cc in absurd (new n one on_n)
    by false true is_m is_n on_m on_n = let one : b ≡ board = cc in absurd (new m one on_m)
    by false false is_m is_n on_m on_n = before on_m on_n
one-step H minute m n board (WorkCompleted k b) accepted before on_m on_n = by (same k m) (same k n) on_m on_n
  where
    by : (s t : Bool) → unwrap_or (if s then Some None else None) (in_work_on H m) ≡ Some board → unwrap_or (if t then Some None else None) (in_work_on H n) ≡ Some board → m ≡ n
    by true t on_m on_n = cc
    by false true on_m on_n = cc
    by false false on_m on_n = before on_m on_n
one-step H minute m n board _ accepted before on_m on_n = before on_m on_n

pub one-machine : (H : History) (m n board : Name) → IsJudged Two H → in_work_on H m ≡ Some board → in_work_on H n ≡ Some board → m ≡ n
one-machine [] m n board judged on_m on_n = cc
one-machine (e ∷ H) m n board (next, judged) on_m on_n =
    one-step H e.effective m n board e.stamped.command (next-accepted H e next) (one-machine H m n board judged)
    (sym (work-next H e m) ∙ on_m) (sym (work-next H e n) ∙ on_n)

there-after : (H : History) (minute : ℕ) (board : Name) (command : Command) (machine : Name) → IsJudged Two H → command_refusal Two H minute command ≡ None
    → unwrap_or (work_by machine command) (in_work_on H machine) ≡ Some board → in_work_after board command (is_in_work H board) ≡ true
unfolding command_refusal
there-after H minute board (WorkStarted k b) machine judged accepted on = by (same k machine) (same b board) refl on
  where
    by : (s t : Bool) → same b board ≡ t → unwrap_or (if s then Some (Some b) else None) (in_work_on H machine) ≡ Some board → (if t then true else is_in_work H board) ≡ true
    by s true is on = refl
    by true false other on = let one : b ≡ board = cc in let its = ap (λ x. same x board) one ∙ same-refl board in cc
    by false false other on = somewhere-in_work H board (machine, on)
there-after H minute board (WorkCompleted k b) machine judged accepted on = by (same k machine) (same b board) refl refl on
  where
    by : (s t : Bool) → same k machine ≡ s → same b board ≡ t → unwrap_or (if s then Some None else None) (in_work_on H machine) ≡ Some board
        → (if t then false else is_in_work H board) ≡ true
    by true t here is on = cc
    by false true elsewhere is on =
        let one = one-machine H k machine board judged (completable H k b accepted ∙ ap (λ x. Some x) (same-true b board is)) on in
        let its = ap (same k) (sym one) ∙ same-refl k in
        cc
    by false false elsewhere other on = somewhere-in_work H board (machine, on)
there-after H minute board _ machine judged accepted on = somewhere-in_work H board (machine, on)

after-there : (H : History) (minute : ℕ) (board : Name) (command : Command) → command_refusal Two H minute command ≡ None
    → in_work_after board command (is_in_work H board) ≡ true → (machine : Name) × (unwrap_or (work_by machine command) (in_work_on H machine) ≡ Some board)
unfolding command_refusal
after-there H minute board (WorkStarted k b) accepted is = by (same b board) refl is
  where
    by : (t : Bool) → same b board ≡ t → (if t then true else is_in_work H board) ≡ true
        → (machine : Name) × (unwrap_or (if same k machine then Some (Some b) else None) (in_work_on H machine) ≡ Some board)
    by true its is = (k, ap (λ s. unwrap_or (if s then Some (Some b) else None) (in_work_on H k)) (same-refl k) ∙ ap (λ x. Some x) (same-true b board its))
    by false other is = let on = in_work-somewhere H board is in (on.0, stays on.0 (same k on.0) refl on.1)
      where
        stays : (machine : Name) (s : Bool) → same k machine ≡ s → in_work_on H machine ≡ Some board → unwrap_or (if s then Some (Some b) else None) (in_work_on H machine) ≡ Some board
        stays machine true here on =
            let free = (startable H minute k b accepted).machine_free in
            let busy = ap (λ x. is_some (in_work_on H x)) (same-true k machine here) ∙ ap is_some on in
            cc
        stays machine false elsewhere on = on
after-there H minute board (WorkCompleted k b) accepted is = by (same b board) refl is
  where
    by : (t : Bool) → same b board ≡ t → (if t then false else is_in_work H board) ≡ true
        → (machine : Name) × (unwrap_or (if same k machine then Some None else None) (in_work_on H machine) ≡ Some board)
    by true its is = cc
    by false other is = let on = in_work-somewhere H board is in (on.0, stays on.0 (same k on.0) refl on.1)
      where
        stays : (machine : Name) (s : Bool) → same k machine ≡ s → in_work_on H machine ≡ Some board → unwrap_or (if s then Some None else None) (in_work_on H machine) ≡ Some board
        stays machine true here on =
            let both : Some b ≡ Some board = sym (completable H k b accepted) ∙ ap (in_work_on H) (same-true k machine here) ∙ on in
            let one : b ≡ board = cc in
            let its = ap (λ x. same x board) one ∙ same-refl board in
            cc
        stays machine false elsewhere on = on
after-there H minute board _ accepted is = in_work-somewhere H board is

pub in_work-next : (H : History) (e : Entry) (board : Name) → IsJudged Two (e ∷ H) → is_in_work (e ∷ H) board ≡ in_work_after board e.stamped.command (is_in_work H board)
in_work-next H e board (next, judged) =
    both_ways _ _
    (λ is. let on = in_work-somewhere (e ∷ H) board is in there-after H e.effective board e.stamped.command on.0 judged (next-accepted H e next) (sym (work-next H e on.0) ∙ on.1))
    (λ is. let on = after-there H e.effective board e.stamped.command (next-accepted H e next) is in somewhere-in_work (e ∷ H) board (on.0, work-next H e on.0 ∙ on.1))

-- ---- products

some-is : {X : Type 0} (o : Option X) → is_none o ≡ false → is_some o ≡ true
some-is None is = cc
some-is (Some x) is = refl

pub work-selected : (H : History) (e : Entry) (machine board : Name) → IsNext Two H e → e.stamped.command ≡ WorkStarted machine board → is_some (selected_on H machine) ≡ true
unfolding command_refusal
work-selected H e machine board next is =
    some-is (selected_on H machine) (startable H e.effective machine board (sym (ap (command_refusal Two H e.effective) is) ∙ next-accepted H e next)).selected

or-first : {X : Type 0} (a b : Option X) → is_some a ≡ true → is_some (option_or a b) ≡ true
or-first None b is = cc
or-first (Some x) b is = refl

pub or-second : {X : Type 0} (a b : Option X) → is_some b ≡ true → is_some (option_or a b) ≡ true
or-second None b is = is
or-second (Some x) b is = refl

product-step : (H : History) (minute : ℕ) (machine board : Name) (command : Command) → command_refusal Two H minute command ≡ None
    → (in_work_on H machine ≡ Some board → is_some (product_of H board) ≡ true) → unwrap_or (work_by machine command) (in_work_on H machine) ≡ Some board
    → is_some (option_or (product_of H board) (option_and_then (selected_on H) (start_by board command))) ≡ true
unfolding command_refusal
product-step H minute machine board (WorkStarted k b) accepted before on = by (same k machine) on
  where
    its : b ≡ board → is_some (option_and_then (selected_on H) (if same b board then Some k else None)) ≡ true
    its one =
        ap (λ t. is_some (option_and_then (selected_on H) (if t then Some k else None))) (ap (λ x. same x board) one ∙ same-refl board)
        ∙ some-is (selected_on H k) (startable H minute k b accepted).selected

    by : (s : Bool) → unwrap_or (if s then Some (Some b) else None) (in_work_on H machine) ≡ Some board
        → is_some (option_or (product_of H board) (option_and_then (selected_on H) (if same b board then Some k else None))) ≡ true
    by true on = or-second (product_of H board) _ (its cc)
    by false on = or-first (product_of H board) _ (before on)
product-step H minute machine board (WorkCompleted k b) accepted before on = by (same k machine) on
  where
    by : (s : Bool) → unwrap_or (if s then Some None else None) (in_work_on H machine) ≡ Some board → is_some (option_or (product_of H board) None) ≡ true
    by true on = cc
    by false on = or-first (product_of H board) None (before on)
product-step H minute machine board _ accepted before on = or-first (product_of H board) None (before on)

pub work-product : (H : History) (machine board : Name) → IsJudged Two H → in_work_on H machine ≡ Some board → is_some (product_of H board) ≡ true
work-product [] machine board judged on = cc
work-product (e ∷ H) machine board (next, judged) on =
    product-step H e.effective machine board e.stamped.command (next-accepted H e next) (work-product H machine board judged) (sym (work-next H e machine) ∙ on)
