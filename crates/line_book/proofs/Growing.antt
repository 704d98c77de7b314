-- How the entries that a guard keeps change as one of the two lists grows.
use Rattle.desk_types.proofs.Common.{[], ◌&&◌, ◌++◌, ◌+◌, ◌<◌, ◌||◌, ◌∙◌, ◌∷◌, ◌≡◌, ◌≤◌, accept, All, All-append}
use Rattle.desk_types.proofs.Common.{All-cons, All-head, All-nil, All-tail, ap, arith, Bool, cond, false}
use Rattle.desk_types.proofs.Common.{filter, filter-append, History, length, length-append, List, list_any}
use Rattle.desk_types.proofs.Common.{list_any-append, Name, nat_lt, ne_eqb, None, not, Option, option_or, refl, Some}
use Rattle.desk_types.proofs.Common.{subst, sym, tape_after, tape_of, true, unwrap_or, ℕ}
use Rattle.desk_laws.proofs.Common.{Entry, Stamped}
use Rattle.std.proofs.lemmas.Bool.{le-ltb, lt-ltb, or_from}
use Rattle.std.proofs.lemmas.List.Elements.{All-weaker}
use Rattle.std.proofs.lemmas.List.Folds.{list_any_none}
use Rattle.line_book.specs.declared.note.Matter.{Matter}
use Rattle.line_book.specs.declared.note.Matter.TheVariants.{Decision}
use Rattle.line_book.specs.declared.note.Note.{Note}
use Rattle.line_book.specs.declared.note.Stock.{Stock}
use Rattle.line_book.specs.Book.{Book, closes, decides, is_closed, is_decided, is_fault, is_open}
use Rattle.line_book.specs.Guard.{ArePlaced, IsNextNote}
use Rattle.line_book.specs.Holds.{held_after, held_from, hold_on}
use Rattle.line_book.specs.Undecided.{is_undecided, needs_decision, undecided}

-- ---- lists

pub filter-in : {X : Type 0} (P : X → Type 0) (p q r : X → Bool) → ((x : X) → P x → r x ≡ (p x && q x))
    → (xs : List X) → All P xs → filter r xs ≡ filter q (filter p xs)
filter-in P p q r each [] all = refl
filter-in P p q r each (x ∷ xs) all =
    ap (λ b. cond b (x ∷ filter r xs) (filter r xs)) (each x (All-head P x xs all))
    ∙ ap (λ l. cond (p x && q x) (x ∷ l) l) (filter-in P p q r each xs (All-tail P x xs all))
    ∙ pushed (p x)
  where
    pushed : (b : Bool) → cond (b && q x) (x ∷ filter q (filter p xs)) (filter q (filter p xs))
        ≡ filter q (cond b (x ∷ filter p xs) (filter p xs))
    pushed true = refl
    pushed false = refl

-- ---- the history grows

closed-turn : (f c k d : Bool) → (f && (not (c || k) && not d)) ≡ ((f && (not k && not d)) && not c)
closed-turn false c k d = refl
closed-turn true true true d = refl
closed-turn true true false true = refl
closed-turn true true false false = refl
closed-turn true false true d = refl
closed-turn true false false true = refl
closed-turn true false false false = refl

pub open-next : (H : History) (s : Stamped) (B : Book) (n : Note) → n.after ≤ length H
    → is_open (accept H s) B n ≡ (is_open H B n && not (closes n.matter s.command))
open-next H s B n le =
    ap (λ b. is_fault n.matter && (not ((b && closes n.matter s.command) || is_closed H n) && not (is_decided B n)))
    (lt-ltb n.after (length H + 1) (omega (arith, le)))
    ∙ closed-turn (is_fault n.matter) (closes n.matter s.command) (is_closed H n) (is_decided B n)

pub notes-next : (H : History) (s : Stamped) (B : Book) → ArePlaced H B
    → filter (is_open (accept H s) B) B ≡ filter (λ n. not (closes n.matter s.command)) (filter (is_open H B) B)
notes-next H s B placed =
    filter-in (λ (n : Note). n.after ≤ length H) (is_open H B) (λ n. not (closes n.matter s.command))
    (is_open (accept H s) B) (open-next H s B) B placed.places

pub placed-next : (H : History) (s : Stamped) (B : Book) → ArePlaced H B → ArePlaced (accept H s) B
placed-next H s B placed = record {
  numbers = All-cons (λ (e : Entry). e.number ≤ length (accept H s)) _ H (omega arith)
      (All-weaker (λ (e : Entry). e.number ≤ length H) (λ (e : Entry). e.number ≤ length (accept H s))
      (λ e le. omega (arith, le)) H placed.numbers);
  places = All-weaker (λ (n : Note). n.after ≤ length H) (λ (n : Note). n.after ≤ length (accept H s))
      (λ n le. omega (arith, le)) B placed.places;
  decisions = placed.decisions;
}

-- ---- the book grows

none-after : (k : ℕ) (test : Entry → Bool) (H : History) → All (λ (e : Entry). e.number ≤ k) H
    → list_any (λ (e : Entry). nat_lt k e.number && test e) H ≡ false
none-after k test H all =
    list_any_none (λ (e : Entry). nat_lt k e.number && test e) H
    (All-weaker (λ (e : Entry). e.number ≤ k) (λ (e : Entry). (nat_lt k e.number && test e) ≡ false)
    (λ e le. ap (λ b. b && test e) (le-ltb k e.number le)) H all)

not-closed : (H : History) (B : Book) (n : Note) → ArePlaced H B → n.after ≡ length H → is_closed H n ≡ false
not-closed H B n placed is =
    none-after n.after (λ (e : Entry). closes n.matter e.stamped.command) H
    (subst (λ k. All (λ (e : Entry). e.number ≤ k) H) (sym is) placed.numbers)

decides-later : (m : Matter) (k number : ℕ) → ((about : ℕ) → m ≡ Decision about → about < number) → number ≤ k
    → decides k m ≡ false
decides-later (Decision about) k number earlier le =
    let lt = earlier about refl in ne_eqb about k (λ is. omega (arith, lt, le, is))
decides-later m k number earlier le = refl

decided-with : (B : Book) (n m : Note)
    → is_decided (B ++ n ∷ []) m ≡ (is_decided B m || (decides m.number n.matter || false))
decided-with B n m = list_any-append (λ (d : Note). decides m.number d.matter) B (n ∷ [])

-- Nobody has decided about the next entry.
undecided-yet : (H : History) (B : Book) (n : Note) → ArePlaced H B → IsNextNote H B n
    → is_decided (B ++ n ∷ []) n ≡ false
undecided-yet H B n placed next =
    decided-with B n n
    ∙ or_from _ _ (placed.decisions n.number (omega (arith, next.number)))
    (or_from _ _ (decides-later n.matter n.number n.number next.earlier (omega arith)) refl)

open-turn : (f c k x : Bool) → (f && (not c && not (k || (x || false)))) ≡ ((f && (not c && not k)) && not x)
open-turn false c k x = refl
open-turn true true k x = refl
open-turn true false true x = refl
open-turn true false false true = refl
open-turn true false false false = refl

waits-turn : (f k x : Bool) → (f && not (k || (x || false))) ≡ ((f && not k) && not x)
waits-turn false k x = refl
waits-turn true true x = refl
waits-turn true false true = refl
waits-turn true false false = refl

and-true-right : (a : Bool) → (a && true) ≡ a
and-true-right true = refl
and-true-right false = refl

pub anything : (B : Book) → All (λ (n : Note). 0 ≤ n.number) B
anything B = λ k n lt. omega arith

pub open-noted : (H : History) (B : Book) (n : Note) → ArePlaced H B → IsNextNote H B n
    → filter (is_open H (B ++ n ∷ [])) (B ++ n ∷ [])
    ≡ filter (λ m. not (decides m.number n.matter)) (filter (is_open H B) B) ++ cond (is_fault n.matter) (n ∷ []) []
open-noted H B n placed next =
    filter-append (is_open H (B ++ n ∷ [])) B (n ∷ [])
    ∙ ap (λ l. l ++ cond (is_open H (B ++ n ∷ []) n) (n ∷ []) [])
    (filter-in (λ (m : Note). 0 ≤ m.number) (is_open H B) (λ m. not (decides m.number n.matter))
    (is_open H (B ++ n ∷ [])) each B (anything B))
    ∙ ap (λ b. filter (λ m. not (decides m.number n.matter)) (filter (is_open H B) B) ++ cond b (n ∷ []) []) itself
  where
    each : (m : Note) → 0 ≤ m.number
        → is_open H (B ++ n ∷ []) m ≡ (is_open H B m && not (decides m.number n.matter))
    each m low = ap (λ b. is_fault m.matter && (not (is_closed H m) && not b)) (decided-with B n m)
        ∙ open-turn (is_fault m.matter) (is_closed H m) (is_decided B m) (decides m.number n.matter)

    itself : is_open H (B ++ n ∷ []) n ≡ is_fault n.matter
    itself = ap (λ c. is_fault n.matter && (not c && not (is_decided (B ++ n ∷ []) n)))
        (not-closed H B n placed next.place)
        ∙ ap (λ d. is_fault n.matter && (true && not d)) (undecided-yet H B n placed next)
        ∙ and-true-right (is_fault n.matter)

pub undecided-noted : (H : History) (B : Book) (n : Note) → ArePlaced H B → IsNextNote H B n
    → undecided (B ++ n ∷ [])
    ≡ filter (λ m. not (decides m.number n.matter)) (undecided B) ++ cond (needs_decision n.matter) (n ∷ []) []
undecided-noted H B n placed next =
    filter-append (is_undecided (B ++ n ∷ [])) B (n ∷ [])
    ∙ ap (λ l. l ++ cond (is_undecided (B ++ n ∷ []) n) (n ∷ []) [])
    (filter-in (λ (m : Note). 0 ≤ m.number) (is_undecided B) (λ m. not (decides m.number n.matter))
    (is_undecided (B ++ n ∷ [])) each B (anything B))
    ∙ ap (λ b. filter (λ m. not (decides m.number n.matter)) (undecided B) ++ cond b (n ∷ []) []) itself
  where
    each : (m : Note) → 0 ≤ m.number
        → is_undecided (B ++ n ∷ []) m ≡ (is_undecided B m && not (decides m.number n.matter))
    each m low = ap (λ b. needs_decision m.matter && not b) (decided-with B n m)
        ∙ waits-turn (needs_decision m.matter) (is_decided B m) (decides m.number n.matter)

    itself : is_undecided (B ++ n ∷ []) n ≡ needs_decision n.matter
    itself = ap (λ d. needs_decision n.matter && not d) (undecided-yet H B n placed next)
        ∙ and-true-right (needs_decision n.matter)

pub placed-noted : (H : History) (B : Book) (n : Note) → ArePlaced H B → IsNextNote H B n → ArePlaced H (B ++ n ∷ [])
placed-noted H B n placed next = record {
  numbers = placed.numbers;
  places = All-append (λ (m : Note). m.after ≤ length H) B (n ∷ []) placed.places
      (All-cons (λ (m : Note). m.after ≤ length H) n [] (omega (arith, next.place)) (All-nil
      (λ (m : Note). m.after ≤ length H)));
  decisions = λ number lt.
      let long : length (B ++ n ∷ []) ≡ length B + 1 = length-append B (n ∷ []) in
      list_any-append (λ (d : Note). decides number d.matter) B (n ∷ [])
      ∙ or_from _ _ (placed.decisions number (omega (arith, long, lt)))
      (or_from _ _ (decides-later n.matter number n.number next.earlier (omega (arith, long, lt, next.number))) refl);
}

-- ---- holds

held-end : (stock : Stock) (held : Option ℕ) (B : Book) (n : Note)
    → held_from stock held (B ++ n ∷ []) ≡ held_after stock n.number n.matter (held_from stock held B)
held-end stock held [] n = refl
held-end stock held (m ∷ B) n = held-end stock (held_after stock m.number m.matter held) B n

pub hold-noted : (B : Book) (n : Note) (stock : Stock)
    → hold_on (B ++ n ∷ []) stock ≡ held_after stock n.number n.matter (hold_on B stock)
hold-noted B n stock = held-end stock None B n

-- ---- tapes

pub tape-next : (H : History) (s : Stamped) (machine slot : Name)
    → tape_of (accept H s) machine slot ≡ tape_after machine slot s.command (tape_of H machine slot)
unfolding tape_of
tape-next H s machine slot = refl

-- ---- boards in work

pub work-over : (o : Option (Option Name)) (later : Option (Option Name))
    → unwrap_or o (unwrap_or later None) ≡ unwrap_or (option_or o later) None
work-over None later = refl
work-over (Some board) later = refl

pub says-over : (b : Bool) (value old : Option Name) → cond b value old ≡ unwrap_or (cond b (Some value) None) old
says-over true value old = refl
says-over false value old = refl
