-- Why a machine may work, and what follows from it.
use Rattle.desk_types.proofs.Common.{[], ◌&&◌, ◌++◌, ◌||◌, ◌∙◌, ◌∷◌, ◌≡◌, ◌≤◌, ◌↔◌, All-from_recursion, AllByRecursion}
use Rattle.desk_types.proofs.Common.{ap, Bool, cond, Contains, false, filter, flat_map, front_of, History}
use Rattle.desk_types.proofs.Common.{in_work_on, is_allowed, is_expired, is_some, is_unbaked, is_wrong_for, IsJudged}
use Rattle.desk_types.proofs.Common.{left_of, List, list_any, list_any-append, live_on, ltb-true, map, Name, nat_lt}
use Rattle.desk_types.proofs.Common.{None, not, now_of, Option, option_and_then, option_map, option_map_or, option_or}
use Rattle.desk_types.proofs.Common.{option_to_list, or_left, or_parts, receipt_of, recursion_from_All, refl, same, Some}
use Rattle.desk_types.proofs.Common.{sym, true}
use Rattle.desk_laws.proofs.Common.{Entry, Receipt, SheetRow, Two}
use Rattle.desk_laws.proofs.Mounts.{front-received, has}
use Rattle.desk_laws.proofs.PicksOfOneSlot.{live-pieces}
use Rattle.desk_types.proofs.Keys.{same-refl}
use Rattle.desk_types.specs.Pieces.{first}
use Rattle.desk_types.specs.Refusals.{feeding_refusal, front_refusal, slots_refusal}
use Rattle.desk_types.specs.Setup.{sheet_on}
use Rattle.std.proofs.lemmas.Bool.{not-false}
use Rattle.std.proofs.lemmas.List.Elements.{Contains-append_left}
use Rattle.std.proofs.lemmas.List.Folds.{list_any_at}
use Rattle.line_book.specs.declared.cause.Cause.{Cause}
use Rattle.line_book.specs.declared.cause.Cause.TheVariants.{AtSlot, Held, NoWork, Open}
use Rattle.line_book.specs.declared.note.Note.{Note}
use Rattle.line_book.specs.declared.note.Stock.TheVariants.{Lot, Reel}
use Rattle.line_book.specs.Book.{Book, closes, decides, is_closed, is_decided, is_fault, is_open}
use Rattle.line_book.specs.Causes.{causes, concerns, front_causes, held_causes, lot_hold, setup_causes, slot_causes, stops, work_causes}
use Rattle.line_book.specs.Go.{IsFed, MayWork}
use Rattle.line_book.specs.Holds.{hold_on}
use Rattle.line_book.proofs.Growing.{anything, filter-in}
use Rattle.line_book.proofs.Setups.{two-appended}

-- ---- lists

append-empty : {X : Type 0} (xs ys : List X) → xs ++ ys ≡ [] → (xs ≡ []) × (ys ≡ [])
append-empty [] ys is = (refl, is)
append-empty (x ∷ xs) ys is = cc

list-none : {X Y : Type 0} (f : X → Y) (o : Option X) → option_to_list (option_map f o) ≡ [] → o ≡ None
list-none f None is = refl
list-none f (Some x) is = cc

none-left : (p : Note → Bool) (xs : List Note) → map Open (filter p xs) ≡ [] → list_any p xs ≡ false
none-left p [] is = refl
none-left p (x ∷ xs) is = by (p x) is (none-left p xs)
  where
    by : (b : Bool) → map Open (cond b (x ∷ filter p xs) (filter p xs)) ≡ []
        → (map Open (filter p xs) ≡ [] → list_any p xs ≡ false) → (b || list_any p xs) ≡ false
    by true one rest = cc
    by false one rest = rest one

pub left-none : (p : Note → Bool) (xs : List Note) → list_any p xs ≡ false → map Open (filter p xs) ≡ []
left-none p [] is = refl
left-none p (x ∷ xs) is =
    let both = or_parts (p x) (list_any p xs) is in
    ap (λ b. map Open (cond b (x ∷ filter p xs) (filter p xs))) both.0 ∙ left-none p xs both.1

-- ---- a slot without causes

clear-feed : (slot : Name) (wrong unbaked expired : Bool) → feeding_refusal slot wrong unbaked expired ≡ None
    → (wrong ≡ false) × (unbaked ≡ false) × (expired ≡ false)
clear-feed slot true unbaked expired is = cc
clear-feed slot false true expired is = cc
clear-feed slot false false true is = cc
clear-feed slot false false false is = (refl, refl, refl)

front-there : (H : History) (machine slot reel : Name) → front_of H machine slot ≡ Some reel
    → has (live_on H machine slot) reel ≡ true
front-there H machine slot reel = by (live_on H machine slot)
  where
    by : (reels : List Name) → first reels ≡ Some reel → has reels reel ≡ true
    by [] is = cc
    by (r ∷ rs) is =
        let it : r ≡ reel = cc in or_left (same reel r) (has rs reel) (ap (same reel) it ∙ same-refl reel)

fed : (H : History) (B : Book) (machine : Name) (row : SheetRow) → IsJudged Two H
    → (o : Option Name) → front_of H machine row.slot ≡ o → front_causes H B row o ≡ [] → IsFed H B machine row
fed H B machine row judged None front is =
    let no : front_refusal H (now_of H) row None ≡ None = list-none (AtSlot row.slot None) _
    (append-empty _ _ is).0 in cc
fed H B machine row judged (Some reel) front is =
    by (receipt_of H reel) refl (front-received H machine row.slot reel judged front)
  where
    both : (option_to_list (option_map (AtSlot row.slot (Some reel)) (front_refusal H (now_of H) row (Some reel))) ≡ [])
        × (held_causes H B row.slot (Some reel) ≡ [])
    both = append-empty _ _ is

    clear : (is_wrong_for H row reel ≡ false) × (is_unbaked H reel ≡ false) × (is_expired H reel (now_of H) ≡ false)
    clear = clear-feed row.slot _ _ _ (list-none (AtSlot row.slot (Some reel)) _ both.0)

    free : (option_to_list (option_map (Held row.slot reel) (hold_on B (Reel reel))) ≡ [])
        × (option_to_list (option_map (Held row.slot reel) (lot_hold H B reel)) ≡ [])
    free = append-empty _ _ both.1

    by : (o : Option Receipt) → receipt_of H reel ≡ o → is_some (receipt_of H reel) ≡ true → IsFed H B machine row
    by None told some = let no : is_some (receipt_of H reel) ≡ false = ap is_some told in cc
    by (Some receipt) told some = record {
      reel = reel;
      front = front;
      receipt = receipt;
      received = told;
      part_allowed = not-false (is_allowed H row.part receipt.part)
          (sym (ap (λ o. option_map_or (λ (r : Receipt). not (is_allowed H row.part r.part)) o false) told) ∙ clear.0);
      baked = clear.1;
      not_expired = clear.2;
      pieces = ltb-true 0 (left_of H reel)
          (live-pieces H machine row.slot reel (front-there H machine row.slot reel front));
      reel_free = list-none (Held row.slot reel) (hold_on B (Reel reel)) free.0;
      lot_free = sym (ap (option_and_then (λ (r : Receipt). hold_on B (Lot r.lot))) told)
          ∙ list-none (Held row.slot reel) (lot_hold H B reel) free.1;
    }

all-fed : (H : History) (B : Book) (machine : Name) → IsJudged Two H → (rows : List SheetRow)
    → flat_map (slot_causes H B machine) rows ≡ [] → AllByRecursion (IsFed H B machine) rows
all-fed H B machine judged [] is = tt
all-fed H B machine judged (row ∷ rows) is =
    let both = append-empty (slot_causes H B machine row) (flat_map (slot_causes H B machine) rows) is in
    (fed H B machine row judged (front_of H machine row.slot) refl both.0, all-fed H B machine judged rows both.1)

-- ---- a slot that is fed

unrefused : (H : History) (B : Book) (machine : Name) (row : SheetRow) → (f : IsFed H B machine row)
    → front_refusal H (now_of H) row (Some f.reel) ≡ None
unrefused H B machine row f =
    ap (λ o. feeding_refusal row.slot (option_map_or (λ (r : Receipt). not (is_allowed H row.part r.part)) o false)
    (is_unbaked H f.reel) (is_expired H f.reel (now_of H))) f.received
    ∙ ap (λ b. feeding_refusal row.slot (not b) (is_unbaked H f.reel) (is_expired H f.reel (now_of H))) f.part_allowed
    ∙ ap (λ b. feeding_refusal row.slot false b (is_expired H f.reel (now_of H))) f.baked
    ∙ ap (feeding_refusal row.slot false false) f.not_expired

slot-clear : (H : History) (B : Book) (machine : Name) (row : SheetRow) → IsFed H B machine row
    → slot_causes H B machine row ≡ []
slot-clear H B machine row f =
    ap (front_causes H B row) f.front
    ∙ ap (λ o. option_to_list (option_map (AtSlot row.slot (Some f.reel)) o) ++ held_causes H B row.slot (Some f.reel))
    (unrefused H B machine row f)
    ∙ ap (λ o. option_to_list (option_map (Held row.slot f.reel) o)
    ++ option_to_list (option_map (Held row.slot f.reel) (lot_hold H B f.reel))) f.reel_free
    ∙ ap (λ o. option_to_list (option_map (Held row.slot f.reel) o))
    (ap (option_and_then (λ (r : Receipt). hold_on B (Lot r.lot))) f.received ∙ f.lot_free)

all-clear : (H : History) (B : Book) (machine : Name) → (rows : List SheetRow) → AllByRecursion (IsFed H B machine) rows
    → flat_map (slot_causes H B machine) rows ≡ []
all-clear H B machine [] all = refl
all-clear H B machine (row ∷ rows) (here, rest) =
    ap (λ l. l ++ flat_map (slot_causes H B machine) rows) (slot-clear H B machine row here)
    ∙ all-clear H B machine rows rest

all-verified : (H : History) (B : Book) (machine : Name) → (rows : List SheetRow)
    → AllByRecursion (IsFed H B machine) rows
    → slots_refusal H (now_of H) machine rows ≡ None
all-verified H B machine [] all = refl
all-verified H B machine (row ∷ rows) (here, rest) =
    ap (λ o. option_or (front_refusal H (now_of H) row o) (slots_refusal H (now_of H) machine rows)) here.front
    ∙ ap (λ o. option_or o (slots_refusal H (now_of H) machine rows)) (unrefused H B machine row here)
    ∙ all-verified H B machine rows rest

-- ---- a machine

go-from : (H : History) (B : Book) (machine : Name) → IsJudged Two H → causes H B machine ≡ [] → MayWork H B machine
go-from H B machine judged is = by (in_work_on H machine) refl first_parts.0 (sheet_on H machine) refl parts.1
  where
    opened : List Cause
    opened = map Open (filter (stops H B machine) B)

    parts : (work_causes (in_work_on H machine) ++ opened ≡ []) × (setup_causes H B machine (sheet_on H machine) ≡ [])
    parts = append-empty (work_causes (in_work_on H machine) ++ opened) (setup_causes H B machine
        (sheet_on H machine)) is

    first_parts : (work_causes (in_work_on H machine) ≡ []) × (opened ≡ [])
    first_parts = append-empty (work_causes (in_work_on H machine)) opened parts.0

    by : (o : Option Name) → in_work_on H machine ≡ o → work_causes o ≡ []
        → (s : Option (List SheetRow)) → sheet_on H machine ≡ s → setup_causes H B machine s ≡ [] → MayWork H B machine
    by None work none s on clear = cc
    by (Some board) work none None on clear = cc
    by (Some board) work none (Some rows) on clear = record {
      board = board;
      in_work = work;
      none_open = none-left (stops H B machine) B first_parts.1;
      rows = rows;
      sheet = on;
      slots = All-from_recursion (IsFed H B machine) rows (all-fed H B machine judged rows clear);
    }

from-go : (H : History) (B : Book) (machine : Name) → MayWork H B machine → causes H B machine ≡ []
from-go H B machine go =
    ap (λ o. work_causes o ++ map Open (filter (stops H B machine) B) ++ setup_causes H B machine (sheet_on H machine))
    go.in_work
    ∙ ap (λ l. l ++ setup_causes H B machine (sheet_on H machine)) (left-none (stops H B machine) B go.none_open)
    ∙ ap (setup_causes H B machine) go.sheet
    ∙ all-clear H B machine go.rows (recursion_from_All (IsFed H B machine) go.rows go.slots)

pub go-exactly : (H : History) (B : Book) (machine : Name) → IsJudged Two H
    → causes H B machine ≡ [] ↔ MayWork H B machine
go-exactly H B machine judged = (go-from H B machine judged, from-go H B machine)

pub go-verified : (H : History) (B : Book) (machine : Name) → (go : MayWork H B machine)
    → slots_refusal H (now_of H) machine go.rows ≡ None
go-verified H B machine go =
    all-verified H B machine go.rows (recursion_from_All (IsFed H B machine) go.rows go.slots)

pub exact-told : (H : History) (B : Book) (machine : Name) (found : List Cause) → IsJudged Two H
    → found ≡ causes H B machine → found ≡ [] ↔ MayWork H B machine
exact-told H B machine found judged is =
    (λ none. go-from H B machine judged (sym is ∙ none), λ go. is ∙ from-go H B machine go)

pub only-setup : (H : History) (B : Book) (machine : Name) → list_any (stops H B machine) B ≡ false
    → work_causes (in_work_on H machine) ≡ [] → causes H B machine ≡ setup_causes H B machine (sheet_on H machine)
only-setup H B machine none work =
    ap (λ l. l ++ map Open (filter (stops H B machine) B) ++ setup_causes H B machine (sheet_on H machine)) work
    ∙ ap (λ l. l ++ setup_causes H B machine (sheet_on H machine)) (left-none (stops H B machine) B none)

work-told : (o : Option Name) → cond (is_some o) [] (NoWork ∷ []) ≡ work_causes o
work-told None = refl
work-told (Some board) = refl

pub all-told : (H : History) (B : Book) (machine : Name) (working : Bool) (notes : List Note) (sheet : Option
    (List SheetRow))
    (first second third : List Cause) → working ≡ is_some (in_work_on H machine) → notes ≡ filter (is_open H B) B
    → sheet ≡ sheet_on H machine → first ≡ cond working [] (NoWork ∷ [])
    → second ≡ first ++ map Open (filter (λ n. concerns sheet machine n.matter) notes)
    → third ≡ second ++ setup_causes H B machine sheet → third ≡ causes H B machine
all-told H B machine working notes sheet first second third works are on one two three =
    three ∙ ap (λ l. l ++ setup_causes H B machine sheet) (two
    ∙ ap (λ l. l ++ map Open (filter (λ n. concerns sheet machine n.matter) notes)) (one
    ∙ ap (λ b. cond b [] (NoWork ∷ [])) works ∙ work-told (in_work_on H machine))
    ∙ ap (λ l. work_causes (in_work_on H machine) ++ map Open (filter (λ n. concerns sheet machine n.matter) l)) are)
    ∙ ap (λ s. (work_causes (in_work_on H machine) ++ map Open (filter
    (λ n. concerns s machine n.matter) (filter (is_open H B) B)))
    ++ setup_causes H B machine s) on
    ∙ ap (λ l. (work_causes (in_work_on H machine) ++ map Open l) ++ setup_causes H B machine (sheet_on H machine))
    (sym (filter-in (λ (n : Note). 0 ≤ n.number) (is_open H B) (λ n. concerns (sheet_on H machine) machine n.matter)
    (stops H B machine) (λ n low. refl) B (anything B)))

kept-end : (p : Note → Bool) (before : List Note) (n : Note)
    → map Open (filter p (before ++ n ∷ [])) ≡ map Open (filter p before) ++ cond (p n) (Open n ∷ []) []
kept-end p [] n = by (p n)
  where
    by : (b : Bool) → map Open (cond b (n ∷ []) []) ≡ cond b (Open n ∷ []) []
    by true = refl
    by false = refl
kept-end p (x ∷ xs) n = by (p x) (kept-end p xs n)
  where
    by : (b : Bool) → map Open (filter p (xs ++ n ∷ [])) ≡ map Open (filter p xs) ++ cond (p n) (Open n ∷ []) []
        → map Open (cond b (x ∷ filter p (xs ++ n ∷ [])) (filter p (xs ++ n ∷ [])))
        ≡ map Open (cond b (x ∷ filter p xs) (filter p xs)) ++ cond (p n) (Open n ∷ []) []
    by true rest = ap (λ l. Open x ∷ l) rest
    by false rest = rest

pub open-step : (p : Note → Bool) (before after : List Note) (n : Note) (old found new : List Cause)
    → after ≡ before ++ n ∷ []
    → found ≡ old ++ map Open (filter p before) → new ≡ found ++ cond (p n) (Open n ∷ []) []
    → new ≡ old ++ map Open (filter p after)
open-step p before after n old found new longer was is =
    two-appended old found new (map Open (filter p before)) (cond (p n) (Open n ∷ []) []) was is
    ∙ ap (λ l. old ++ l) (sym (ap (λ l. map Open (filter p l)) longer ∙ kept-end p before n))

-- ---- a refusal stops

less : {X : Type 0} (p q : X → Bool) → (xs : List X) → list_any q xs ≡ false → list_any (λ x. p x && q x) xs ≡ false
less p q [] is = refl
less p q (x ∷ xs) is =
    ap (λ b. (p x && b) || list_any (λ y. p y && q y) xs) (or_parts (q x) (list_any q xs) is).0
    ∙ ap (λ b. (p x && false) || b) (less p q xs (or_parts (q x) (list_any q xs) is).1)
    ∙ by (p x)
  where
    by : (b : Bool) → ((b && false) || false) ≡ false
    by true = refl
    by false = refl

closed-later : (H later : History) (n : Note) → list_any (λ (e : Entry). closes n.matter e.stamped.command) later
    ≡ false
    → is_closed (later ++ H) n ≡ is_closed H n
closed-later H later n none =
    list_any-append (λ (e : Entry). nat_lt n.after e.number && closes n.matter e.stamped.command) later H
    ∙ ap (λ b. b || is_closed H n)
    (less (λ (e : Entry). nat_lt n.after e.number) (λ (e : Entry). closes n.matter e.stamped.command) later none)

or-false-right : (a : Bool) → (a || false) ≡ a
or-false-right true = refl
or-false-right false = refl

decided-later : (B more : Book) (n : Note) → is_decided more n ≡ false → is_decided (B ++ more) n ≡ is_decided B n
decided-later B more n none =
    list_any-append _ B more ∙ ap (λ b. is_decided B n || b) none ∙ or-false-right (is_decided B n)

open-later : (H later : History) (B more : Book) (n : Note)
    → list_any (λ (e : Entry). closes n.matter e.stamped.command) later ≡ false → is_decided more n ≡ false
    → is_open (later ++ H) (B ++ more) n ≡ is_open H B n
open-later H later B more n none undecided =
    ap (λ c. is_fault n.matter && (not c && not (is_decided (B ++ more) n))) (closed-later H later n none)
    ∙ ap (λ d. is_fault n.matter && (not (is_closed H n) && not d)) (decided-later B more n undecided)

any-here : (p : Note → Bool) (xs : List Note) (x : Note) → Contains xs x → p x ≡ true → list_any p xs ≡ true
any-here p xs x there is = list_any_at p xs there.0 x there.1 (ap p there.2 ∙ is)

pub still-stopped : (H later : History) (B more : Book) (n : Note) (machine : Name) → Contains B n
    → is_open H B n ≡ true
    → concerns (sheet_on (later ++ H) machine) machine n.matter ≡ true
    → list_any (λ (e : Entry). closes n.matter e.stamped.command) later ≡ false → is_decided more n ≡ false
    → list_any (stops (later ++ H) (B ++ more) machine) (B ++ more) ≡ true
still-stopped H later B more n machine there is of_machine none undecided =
    any-here (stops (later ++ H) (B ++ more) machine) (B ++ more) n (Contains-append_left B more n there)
    (ap (λ b. b && concerns (sheet_on (later ++ H) machine) machine n.matter)
    (open-later H later B more n none undecided ∙ is)
    ∙ of_machine)

-- ---- what is closed

shut : (f c d c' d' : Bool) → (f && (not c && not d)) ≡ false → (f && (not (c' || c) && not (d || d'))) ≡ false
shut false c d c' d' is = refl
shut true true d true d' is = refl
shut true true d false d' is = refl
shut true false true true d' is = refl
shut true false true false d' is = refl
shut true false false c' d' is = cc

pub stays-closed : (H later : History) (B more : Book) (n : Note) → is_open H B n ≡ false
    → is_open (later ++ H) (B ++ more) n ≡ false
stays-closed H later B more n is =
    ap (λ c. is_fault n.matter && (not c && not (is_decided (B ++ more) n)))
    (list_any-append (λ (e : Entry). nat_lt n.after e.number && closes n.matter e.stamped.command) later H)
    ∙ ap (λ d. is_fault n.matter && (not (is_closed later n || is_closed H n) && not d))
    (list_any-append (λ (d : Note). decides n.number d.matter) B more)
    ∙ shut (is_fault n.matter) (is_closed H n) (is_decided B n) (is_closed later n) (is_decided more n) is
