-- The pieces that an entry makes doubtful are settled once the slot is loaded or unloaded again.
use Rattle.desk_types.proofs.Common.{[], ◌&&◌, ◌++◌, ◌+◌, ◌||◌, ◌∙◌, ◌∷◌, ◌≡◌, ◌≤◌, All, All-append, All-cons, All-from_recursion, All-head, All-nil, All-tail, AllByRecursion, and_parts, ap, append-nil, arith, Bool, cond, enumerate_from, entry_takes, EntryTake, false, filter, filter-append, filter_map, filter_map-append, History, IsJudged, length, List, list_any, map, Name, nat_lt, not, or_left, or_right, placement_of, placements_of, refl, same, same-true, subst, sym, takes_by, takes_of, true, ℕ}
use Rattle.std.specs.List.{cons_option}
use Rattle.desk_laws.proofs.Common.{Command, Counted, Entry, Placed, Placement, Purpose, Rejected, Take, Two}
use Rattle.desk_laws.specs.TapeOrder.{restarts}
use Rattle.std.proofs.lemmas.Bool.{le-ltb, lt-ltb}
use Rattle.std.proofs.lemmas.List.Elements.{All-weaker}
use Rattle.line_book.specs.declared.note.Note.{Note}
use Rattle.line_book.specs.declared.note.Matter.{Matter}
use Rattle.line_book.specs.declared.note.Matter.TheVariants.{Handling, Differs}
use Rattle.line_book.specs.Doubt.{is_settled, is_unsettled, settles, unsettled_by, unsettles}

-- ---- lists

filter-same-in : {X : Type 0} (P : X → Type 0) (p q : X → Bool) → ((x : X) → P x → p x ≡ q x) → (xs : List X)
    → All P xs → filter p xs ≡ filter q xs
filter-same-in P p q each [] all = refl
filter-same-in P p q each (x ∷ xs) all =
    ap (λ b. cond b (x ∷ filter p xs) (filter p xs)) (each x (All-head P x xs all))
    ∙ ap (λ l. cond (q x) (x ∷ l) l) (filter-same-in P p q each xs (All-tail P x xs all))

filter-none : {X : Type 0} (P : X → Type 0) (p : X → Bool) → ((x : X) → P x → p x ≡ false) → (xs : List X)
    → All P xs → filter p xs ≡ []
filter-none P p each [] all = refl
filter-none P p each (x ∷ xs) all =
    ap (λ b. cond b (x ∷ filter p xs) (filter p xs)) (each x (All-head P x xs all))
    ∙ filter-none P p each xs (All-tail P x xs all)

any-more : (p q : Entry → Bool) (P : Entry → Type 0) → ((e : Entry) → P e → p e ≡ true → q e ≡ true)
    → (es : List Entry) → All P es → list_any p es ≡ true → list_any q es ≡ true
any-more p q P each [] all is = cc
any-more p q P each (e ∷ es) all is = by (p e) refl is (any-more p q P each es (All-tail P e es all))
  where
    by : (b : Bool) → p e ≡ b → (b || list_any p es) ≡ true → (list_any p es ≡ true → list_any q es ≡ true)
        → (q e || list_any q es) ≡ true
    by true here is more = or_left (q e) (list_any q es) (each e (All-head P e es all) here)
    by false here is more = or_right (q e) (list_any q es) (more is)

-- ---- numbers

numbers-below : (k : ℕ) (H : History) → IsJudged Two H → length H ≤ k → All (λ (e : Entry). e.number ≤ k) H
numbers-below k [] judged le = All-nil (λ (e : Entry). e.number ≤ k)
numbers-below k (e ∷ H) judged le =
    let number = judged.0.number in
    All-cons (λ (e : Entry). e.number ≤ k) e H (omega (arith, number, le))
    (numbers-below k H judged.1 (omega (arith, le)))

-- A take of the entry with the number and minute, at a place in it.
abbrev taken : ℕ → ℕ → ℕ × Take → EntryTake
taken n minute p = record { number = n; place = p.0; effective = minute; take = p.1 }

pairs-number : (n minute : ℕ) (ps : List (ℕ × Take))
    → AllByRecursion (λ (p : Placement). p.number ≡ n) (filter_map placement_of (map (taken n minute) ps))
pairs-number n minute [] = tt
pairs-number n minute ((place, take) ∷ ps) = by take.purpose (pairs-number n minute ps)
  where
    rest : List Placement
    rest = filter_map placement_of (map (taken n minute) ps)

    by : (q : Purpose) → AllByRecursion (λ (p : Placement). p.number ≡ n) rest
        → AllByRecursion (λ (p : Placement). p.number ≡ n)
        (cons_option (placement_of (taken n minute (place, record take { purpose = q }))) rest)
    by (Placed b d m s) more = (refl, more)
    by (Rejected m s) more = more
    by Counted more = more

-- The pieces that the entry places.
abbrev newly : History → Entry → List Placement
newly H e = filter_map placement_of (entry_takes H e)

new-number : (H : History) (e : Entry) → All (λ (p : Placement). p.number ≡ e.number) (newly H e)
new-number H e = All-from_recursion _ (newly H e) (pairs-number e.number e.effective (enumerate_from 1
    (takes_by H e.effective e.stamped.command)))

placed-next : (H : History) (e : Entry) → placements_of (e ∷ H) ≡ placements_of H ++ newly H e
unfolding takes_of
placed-next H e = filter_map-append placement_of (takes_of H) (entry_takes H e)

placed-below : (H : History) → IsJudged Two H → All (λ (p : Placement). p.number ≤ length H) (placements_of H)
unfolding takes_of
placed-below [] judged = All-nil (λ (p : Placement). p.number ≤ 0)
placed-below (e ∷ H) judged =
    let number = judged.0.number in
    subst (All (λ (p : Placement). p.number ≤ length (e ∷ H))) (sym (placed-next H e))
    (All-append (λ (p : Placement). p.number ≤ length (e ∷ H)) (placements_of H) (newly H e)
    (All-weaker (λ (p : Placement). p.number ≤ length H) (λ (p : Placement). p.number ≤ length (e ∷ H))
    (λ p le. omega (arith, le)) (placements_of H) (placed-below H judged.1))
    (All-weaker (λ (p : Placement). p.number ≡ e.number) (λ (p : Placement). p.number ≤ length (e ∷ H))
    (λ p is. omega (arith, is, number)) (newly H e) (new-number H e)))

-- ---- one more entry

slot-settles : (m : Matter) (machine slot : Name) (command : Command) → unsettles machine slot m ≡ true
    → settles m command ≡ restarts machine slot command
slot-settles (Handling a b reel word) machine slot command is =
    let both = and_parts (same a machine) (same b slot) is in
    ap (λ x. restarts x b command) (same-true a machine both.0)
    ∙ ap (λ y. restarts machine y command) (same-true b slot both.1)
slot-settles (Differs a b board reel desk_reel) machine slot command is =
    let both = and_parts (same a machine) (same b slot) is in
    ap (λ x. restarts x b command) (same-true a machine both.0)
    ∙ ap (λ y. restarts machine y command) (same-true b slot both.1)
slot-settles m machine slot command is = cc

off : (a : Bool) → (a && not true) ≡ false
off true = refl
off false = refl

-- A piece that was placed before the entry is in doubt after it as before.
older : (H : History) (e : Entry) (n : Note) (p : Placement) → p.number ≤ length H → e.number ≡ length H + 1
    → is_unsettled (e ∷ H) n p ≡ is_unsettled H n p
older H e n p low number =
    ap (λ b. unsettles p.machine p.slot n.matter && (nat_lt n.after p.number
    && not (((nat_lt n.after e.number && b) && restarts p.machine p.slot e.stamped.command) || later)))
    (le-ltb e.number p.number (omega (arith, low, number)))
    ∙ ap (λ b. unsettles p.machine p.slot n.matter && (nat_lt n.after p.number && not (b || later)))
    (none (nat_lt n.after e.number) (restarts p.machine p.slot e.stamped.command))
  where
    later : Bool
    later = list_any (λ (x : Entry). (nat_lt n.after x.number && nat_lt x.number p.number)
        && restarts p.machine p.slot x.stamped.command) H

    none : (a b : Bool) → ((a && false) && b) ≡ false
    none true b = refl
    none false b = refl

-- A piece that the entry places is not in doubt, once the slot was loaded or unloaded.
newer : (H : History) (e : Entry) (n : Note) (p : Placement) → IsJudged Two H → p.number ≡ e.number
    → e.number ≡ length H + 1 → is_settled H n ≡ true → is_unsettled (e ∷ H) n p ≡ false
newer H e n p judged is number ended = by (unsettles p.machine p.slot n.matter) refl
  where
    between : Entry → Bool
    between x = (nat_lt n.after x.number && nat_lt x.number p.number) && restarts p.machine p.slot x.stamped.command

    three : (a b c : Bool) → a ≡ true → b ≡ true → c ≡ true → ((a && b) && c) ≡ true
    three true true true x y z = refl
    three false b c x y z = cc
    three true false c x y z = cc
    three true true false x y z = cc

    there : unsettles p.machine p.slot n.matter ≡ true → list_any between (e ∷ H) ≡ true
    there of = or_right (between e) (list_any between H)
        (any-more (λ (x : Entry). nat_lt n.after x.number && settles n.matter x.stamped.command) between
        (λ (x : Entry). x.number ≤ length H)
        (λ x low here. let both = and_parts (nat_lt n.after x.number) (settles n.matter x.stamped.command) here in
        three _ _ _ both.0 (lt-ltb x.number p.number (omega (arith, low, is, number)))
        (sym (slot-settles n.matter p.machine p.slot x.stamped.command of) ∙ both.1))
        H (numbers-below (length H) H judged (omega arith)) ended)

    by : (b : Bool) → unsettles p.machine p.slot n.matter ≡ b
        → (b && (nat_lt n.after p.number && not (list_any between (e ∷ H)))) ≡ false
    by false of = refl
    by true of = ap (λ b. nat_lt n.after p.number && not b) (there of) ∙ off (nat_lt n.after p.number)

one-more : (H : History) (e : Entry) (n : Note) → IsJudged Two (e ∷ H) → is_settled H n ≡ true
    → unsettled_by (e ∷ H) n ≡ unsettled_by H n
one-more H e n judged ended =
    let number = judged.0.number in
    ap (filter (is_unsettled (e ∷ H) n)) (placed-next H e)
    ∙ filter-append (is_unsettled (e ∷ H) n) (placements_of H) (newly H e)
    ∙ ap (λ l. filter (is_unsettled (e ∷ H) n) (placements_of H) ++ l)
    (filter-none (λ (p : Placement). p.number ≡ e.number) (is_unsettled (e ∷ H) n)
    (λ p is. newer H e n p judged.1 is number ended) (newly H e) (new-number H e))
    ∙ append-nil (filter (is_unsettled (e ∷ H) n) (placements_of H))
    ∙ filter-same-in (λ (p : Placement). p.number ≤ length H) (is_unsettled (e ∷ H) n) (is_unsettled H n)
    (λ p low. older H e n p low number) (placements_of H) (placed-below H judged.1)

still-ended : (H : History) (later : List Entry) (n : Note) → is_settled H n ≡ true → is_settled (later ++ H) n ≡ true
still-ended H [] n ended = ended
still-ended H (e ∷ later) n ended = or_right _ (is_settled (later ++ H) n) (still-ended H later n ended)

pub settled : (H : History) (later : List Entry) (n : Note) → IsJudged Two (later ++ H) → is_settled H n ≡ true
    → unsettled_by (later ++ H) n ≡ unsettled_by H n
settled H [] n judged ended = refl
settled H (e ∷ later) n judged ended = one-more (later ++ H) e n judged (still-ended H later n ended)
    ∙ settled H later n judged.1 ended
