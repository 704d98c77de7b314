-- The work of rows.
use Rattle.desk_types.proofs.Common.{[], ◌&&◌, ◌||◌, ◌∙◌, ◌∷◌, ◌≡◌, ap, board_row, Bool, by_name, cond, false}
use Rattle.desk_types.proofs.Common.{History, in_work_on, is_at, is_at-by_name, is_in_work, is_some, IsJudged}
use Rattle.desk_types.proofs.Common.{List, list_any, lookup, Name, nat_list_cmp_total, None, Option}
use Rattle.desk_types.proofs.Common.{option_and_then, option_map, option_map_or, product_of, refl, same}
use Rattle.desk_types.proofs.Common.{same-refl, same-sym, same-true, Some, sym, true, unwrap_or, work_machine}
use Rattle.desk_laws.proofs.Common.{BoardRow, Two}
use Rattle.feeder_state.proofs.FilledMaps.{AreOf, others}
use Rattle.state_rows.proofs.DesksOfRows.{in_work-row, machine_in, work-on_row}
use Rattle.state_rows.specs.Kept.{row_at}

pub product-row : (H : History) (board : Name) → option_and_then (λ (r : BoardRow). Some r.product) (board_row H board) ≡ product_of H board
product-row H board = by (product_of H board)
  where
    by : (product : Option Name) → option_and_then (λ (r : BoardRow). Some r.product) (option_map (λ p. record { board = board; product = p; machine = work_machine H board }) product) ≡ product
    by None = refl
    by (Some p) = refl

-- ---- rows with a property

abbrev pub has_such : {X : Type 0} → (X → Bool) → Name → List (Name × X) → Bool
has_such such key entries = list_any (λ e. such e.1 && same e.0 key) entries

pub such-found : {X : Type 0} (such : X → Bool) (key : Name) (table : Name → Option X) (es : List (Name × X)) → AreOf table es
    → has_such such key es ≡ (is_some (row_at by_name es key) && option_map_or such (table key) false)
such-found such key table [] each = refl
such-found such key table (e ∷ es) (first, each) =
    by (same e.0 key) refl (such-found such key table es each)
    ∙ ap (λ b. is_some (cond b (Some e.1) (lookup (is_at (by_name key)) es)) && option_map_or such (table key) false) (same-sym e.0 key ∙ sym (is_at-by_name key e.0))
  where
    both : (a b c : Bool) → a ≡ c → (a || (b && c)) ≡ c
    both true b true is = refl
    both true b false is = cc
    both false true c is = refl
    both false false c is = is

    and-true : (a : Bool) → (a && true) ≡ a
    and-true true = refl
    and-true false = refl

    and-false : (a : Bool) → (a && false) ≡ false
    and-false true = refl
    and-false false = refl

    by : (b : Bool) → same e.0 key ≡ b → has_such such key es ≡ (is_some (row_at by_name es key) && option_map_or such (table key) false)
        → ((such e.1 && b) || has_such such key es) ≡ (is_some (cond b (Some e.1) (lookup (is_at (by_name key)) es)) && option_map_or such (table key) false)
    by true one rest =
        let found : table key ≡ Some e.1 = ap table (sym (same-true e.0 key one)) ∙ first in
        ap (λ b. b || has_such such key es) (and-true (such e.1)) ∙ ap (λ b. such e.1 || b) rest
        ∙ both (such e.1) (is_some (row_at by_name es key)) (option_map_or such (table key) false) (sym (ap (λ o. option_map_or such o false) found))
    by false away rest = ap (λ b. b || has_such such key es) (and-false (such e.1)) ∙ rest

pub such-all : {X : Type 0} (such : X → Bool) (key : Name) (table : Name → Option X) (es : List (Name × X)) → AreOf table es → ((k : Name) → row_at by_name es k ≡ table k)
    → has_such such key es ≡ option_map_or such (table key) false
such-all such key table es each found =
    such-found such key table es each ∙ ap (λ o. is_some o && option_map_or such (table key) false) (found key) ∙ by (table key)
  where
    by : (o : Option _) → (is_some o && option_map_or such o false) ≡ option_map_or such o false
    by None = refl
    by (Some x) = refl

pub among-group : (d key : Name) (entries : List (Name × List Name)) → option_map_or (list_any (same d)) (row_at by_name entries key) false ≡ list_any (same d) (unwrap_or (row_at by_name entries key) [])
among-group d key entries = by (row_at by_name entries key)
  where
    by : (found : Option (List Name)) → option_map_or (list_any (same d)) found false ≡ list_any (same d) (unwrap_or found [])
    by None = refl
    by (Some names) = refl

-- ---- boards in work

abbrev pub is_at_work : BoardRow → Bool
is_at_work row = is_some row.machine

pub busy-row : (H : History) (board : Name) → IsJudged Two H → option_map_or is_at_work (board_row H board) false ≡ is_in_work H board
busy-row H board judged = by (board_row H board) ∙ sym (in_work-row H board judged)
  where
    by : (row : Option BoardRow) → option_map_or is_at_work row false ≡ is_some (machine_in row)
    by None = refl
    by (Some r) = refl

-- ---- boards on machines

-- The map has the boards in work that have no remaining row, and nothing else.
pub record IsRunning (left : List (Name × BoardRow)) (work now : Option Name) : Type 0 where
  pub done : (board : Name) → work ≡ Some board → row_at by_name left board ≡ None → now ≡ Some board
  pub sound : (board : Name) → now ≡ Some board → work ≡ Some board

pub running-first : (H : History) (machine : Name) (es : List (Name × BoardRow)) (now : Option Name) → IsJudged Two H → ((b : Name) → row_at by_name es b ≡ board_row H b) → now ≡ None
    → IsRunning es (in_work_on H machine) now
running-first H machine es now judged found none = record {
  done = λ board is absent. let says = (work-on_row H machine board judged).0 is in let nothing = ap machine_in (sym (found board) ∙ absent) in cc;
  sound = λ board is. cc;
}

pub running-next : (H : History) (machine board : Name) (row : BoardRow) (left : List (Name × BoardRow)) (now new : Option Name) → IsJudged Two H → board_row H board ≡ Some row
    → IsRunning ((board, row) ∷ left) (in_work_on H machine) now → new ≡ option_map_or (λ m. cond (same m machine) (Some board) now) row.machine now
    → IsRunning left (in_work_on H machine) new
running-next H machine board row left now new judged row_is running put = record {
  done = λ b is none. put ∙ by b is none row.machine refl;
  sound = λ b is. from b row.machine refl (sym put ∙ is);
}
  where
    works : (m : Name) → row.machine ≡ Some m → in_work_on H m ≡ Some board
    works m is = (work-on_row H m board judged).1 (ap machine_in row_is ∙ is)

    says : in_work_on H machine ≡ Some board → row.machine ≡ Some machine
    says is = ap machine_in (sym row_is) ∙ (work-on_row H machine board judged).0 is

    here : (m : Name) → row.machine ≡ Some m → same m machine ≡ true → in_work_on H machine ≡ Some board
    here m is one = ap (in_work_on H) (sym (same-true m machine one)) ∙ works m is

    before : (b : Name) → in_work_on H machine ≡ Some b → row_at by_name left b ≡ None → (row.machine ≡ Some machine → ⊥) → now ≡ Some b
    before b is none never = at (same board b) refl
      where
        at : (c : Bool) → same board b ≡ c → now ≡ Some b
        at true one = absurd (never (says (is ∙ ap (λ x. Some x) (sym (same-true board b one)))))
        at false away = running.done b is (others by_name nat_list_cmp_total (board, row) left b (is_at-by_name board b ∙ away) none)

    by : (b : Name) → in_work_on H machine ≡ Some b → row_at by_name left b ≡ None → (o : Option Name) → row.machine ≡ o
        → option_map_or (λ m. cond (same m machine) (Some board) now) o now ≡ Some b
    by b is none None off = before b is none (λ on. cc)
    by b is none (Some m) on = at (same m machine) refl
      where
        at : (c : Bool) → same m machine ≡ c → cond c (Some board) now ≡ Some b
        at true one = sym (here m on one) ∙ is
        at false away = before b is none (λ there. let one : same m machine ≡ true = ap (λ o. option_map_or (λ x. same x machine) o true) (sym on ∙ there) ∙ same-refl machine in cc)

    from : (b : Name) (o : Option Name) → row.machine ≡ o → option_map_or (λ m. cond (same m machine) (Some board) now) o now ≡ Some b → in_work_on H machine ≡ Some b
    from b None off is = running.sound b is
    from b (Some m) on is = at (same m machine) refl is
      where
        at : (c : Bool) → same m machine ≡ c → cond c (Some board) now ≡ Some b → in_work_on H machine ≡ Some b
        at true one is = here m on one ∙ is
        at false away is = running.sound b is

pub running-last : (work now : Option Name) → IsRunning [] work now → now ≡ work
running-last (Some b) now running = running.done b refl refl
running-last None None running = refl
running-last None (Some b) running = sym (running.sound b refl)
