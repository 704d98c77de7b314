-- The order of the pieces, the entries, and what they ask and mark.
use Rattle.desk_types.proofs.Common.{[], ◌&&◌, ◌+◌, ◌++◌, ◌<◌, ◌∙◌, ◌∷◌, ◌≡◌, ◌≤◌, accept, All, All-cons}
use Rattle.desk_types.proofs.Common.{All-nil, and_parts, ap, arith, Bool, cons_option}
use Rattle.desk_types.proofs.Common.{entry_of, entry_takes, enumerate_from, false, filter_map, filter_map-append, History, leb-true, length}
use Rattle.desk_types.proofs.Common.{List, map, nat_le, None, Option, placement_of, placements_of, refl, Some, subst, sym, takes_by}
use Rattle.desk_types.proofs.Common.{takes_of, true, ℕ}
use Rattle.std.proofs.lemmas.Bool.{le-leb}
use Rattle.std.proofs.lemmas.List.Elements.{All-weaker}
use Rattle.desk_types.specs.declared.command.Entry.{Entry}
use Rattle.desk_types.specs.declared.command.Stamped.{Stamped}
use Rattle.desk_types.specs.declared.placement.Placement.{Placement}
use Rattle.desk_types.specs.declared.take.Purpose.{Purpose}
use Rattle.desk_types.specs.declared.take.Purpose.TheVariants.{Counted, Placed, Rejected}
use Rattle.desk_types.specs.declared.take.Take.{Take}
use Rattle.desk_types.specs.Placements.{EntryTake}
use Rattle.line_book.specs.declared.note.Matter.{Matter}
use Rattle.line_book.specs.declared.note.Matter.TheVariants.{Handling, Differs}
use Rattle.line_book.specs.declared.note.Note.{Note}
use Rattle.line_book.specs.Book.{Book}
use Rattle.line_book.specs.Restored.{Follow, history_from, history_of, IsBook}
use Rattle.line_book.proofs.Restoring.{length-of}
use Rattle.line_doubt.specs.declared.mark.Ask.{Ask}
use Rattle.line_doubt.specs.declared.mark.Mark.{Mark}
use Rattle.line_doubt.specs.Marks.{AsksRise, MarksRise, Rise}
use Rattle.line_doubt.specs.Order.{notes_rise, pieces_rise, rises}
use Rattle.line_doubt.specs.Sources.{ask_of, unsettled_mark, unsettled_marks}
use Rattle.line_doubt.proofs.Rising.{rise-lower}

-- ---- what the tests say

module _ {X : Type 0} (at : X → ℕ) where
  pub rises-rise : (from to : ℕ) (xs : List X) → rises at from to xs ≡ true → Rise at from xs
  rises-rise from to [] is = tt
  rises-rise from to (x ∷ xs) is =
      let parts = and_parts (nat_le from (at x) && nat_le (at x) to) (rises at (at x) to xs) is in (
        leb-true from (at x) (and_parts (nat_le from (at x)) (nat_le (at x) to) parts.0).0,
        rises-rise (at x) to xs parts.1,
      )

  pub rises-within : (from to : ℕ) (xs : List X) → rises at from to xs ≡ true
      → All (λ x. (from ≤ at x) × (at x ≤ to)) xs
  rises-within from to [] is = All-nil (λ x. (from ≤ at x) × (at x ≤ to))
  rises-within from to (x ∷ xs) is =
      let parts = and_parts (nat_le from (at x) && nat_le (at x) to) (rises at (at x) to xs) is in
      let ends = and_parts (nat_le from (at x)) (nat_le (at x) to) parts.0 in
      let low = leb-true from (at x) ends.0 in
      All-cons (λ x. (from ≤ at x) × (at x ≤ to)) x xs (low, leb-true (at x) to ends.1)
      (All-weaker (λ y. (at x ≤ at y) × (at y ≤ to)) (λ y. (from ≤ at y) × (at y ≤ to))
      (λ y is. let first = is.0 in (omega (arith, first, low), is.1)) xs (rises-within (at x) to xs parts.1))

-- ---- questions and marks

asks-in-order : (from : ℕ) (ps : List Placement) → Rise (λ (p : Placement). p.number) from ps
    → AsksRise from (map ask_of ps)
asks-in-order from [] rise = tt
asks-in-order from (p ∷ ps) rise = (rise.0, asks-in-order p.number ps rise.1)

pub asks-rise : (commands : ℕ) (ps : List Placement) → pieces_rise commands ps ≡ true → AsksRise 0 (map ask_of ps)
asks-rise commands ps is = rise-lower (λ (a : Ask). a.at) 0 1 (map ask_of ps) (omega arith)
    (asks-in-order 1 ps (rises-rise (λ (p : Placement). p.number) 1 commands ps is))

pub pieces-within : (commands : ℕ) (ps : List Placement) → pieces_rise commands ps ≡ true
    → All (λ (p : Placement). (0 < p.number) × (p.number ≤ commands)) ps
pieces-within commands ps is = All-weaker (λ (p : Placement). (1 ≤ p.number) × (p.number ≤ commands))
    (λ (p : Placement). (0 < p.number) × (p.number ≤ commands))
    (λ p is. let first = is.0 in (omega (arith, first), is.1)) ps
    (rises-within (λ (p : Placement). p.number) 1 commands ps is)

marks-in-order : (after : ℕ) (ns : List Note) → Rise (λ (n : Note). n.after) after ns
    → MarksRise after (filter_map (λ (n : Note). unsettled_mark n.number n.after n.matter) ns)
marks-in-order after [] rise = tt
marks-in-order after (n ∷ ns) rise =
    by (unsettled_mark n.number n.after n.matter) (λ m is. at n.number n.after n.matter m is)
    (marks-in-order n.after ns rise.1)
  where
    later : List Mark
    later = filter_map (λ (n : Note). unsettled_mark n.number n.after n.matter) ns

    at : (number after : ℕ) (c : Matter) (m : Mark) → unsettled_mark number after c ≡ Some m → m.at ≡ after
    at number after (Handling a b reel word) m is = cc
    at number after (Differs a b board reel desk_reel) m is = cc
    at number after c m is = cc

    by : (o : Option Mark) → ((m : Mark) → o ≡ Some m → m.at ≡ n.after) → MarksRise n.after later
        → MarksRise after (cons_option o later)
    by None is rest = rise-lower (λ (m : Mark). m.at) after n.after later rise.0 rest
    by (Some m) is rest = let here = is m refl in let up = rise.0 in
        (omega (arith, here, up), subst (λ k. MarksRise k later) (sym here) rest)

pub unsettled-rise : (commands : ℕ) (B : Book) → notes_rise commands B ≡ true → MarksRise 0 (unsettled_marks B)
unsettled-rise commands B is = marks-in-order 0 B (rises-rise (λ (n : Note). n.after) 0 commands B is)

-- ---- the lists of a file

both-true : (a b c : Bool) → a ≡ true → b ≡ true → c ≡ true → ((a && b) && c) ≡ true
both-true true true true x y z = refl
both-true true true false x y z = z
both-true true false c x y z = y
both-true false b c x y z = x

follow-rises : (commands entries after : ℕ) (ns : List Note) → Follow commands entries after ns
    → rises (λ (n : Note). n.after) after commands ns ≡ true
follow-rises commands entries after [] follow = refl
follow-rises commands entries after (n ∷ ns) follow =
    both-true (nat_le after n.after) (nat_le n.after commands) (rises (λ (n : Note). n.after) n.after commands ns)
    (le-leb after n.after follow.0.rises) (le-leb n.after commands follow.0.within)
    (follow-rises commands (entries + 1) n.after ns follow.1)

pub book-rises : (commands : ℕ) (B : Book) → IsBook commands B → notes_rise commands B ≡ true
book-rises commands B is = follow-rises commands 0 0 B is

rises-last : (from to high : ℕ) (ps qs : List Placement) → from ≤ high → high ≤ to
    → rises (λ (p : Placement). p.number) from high ps ≡ true
    → rises (λ (p : Placement). p.number) high to qs ≡ true
    → rises (λ (p : Placement). p.number) from to (ps ++ qs) ≡ true
rises-last from to high [] [] le top first second = refl
rises-last from to high [] (q ∷ qs) le top first second =
    let at : Placement → ℕ = λ (p : Placement). p.number in
    let parts = and_parts (nat_le high q.number && nat_le q.number to) (rises at q.number to qs) second in
    let ends = and_parts (nat_le high q.number) (nat_le q.number to) parts.0 in
    let low = leb-true high q.number ends.0 in
    both-true (nat_le from q.number) (nat_le q.number to) (rises at q.number to qs)
    (le-leb from q.number (omega (arith, le, low))) ends.1 parts.1
rises-last from to high (p ∷ ps) qs le top first second =
    let at : Placement → ℕ = λ (p : Placement). p.number in
    let parts = and_parts (nat_le from p.number && nat_le p.number high) (rises at p.number high ps) first in
    let ends = and_parts (nat_le from p.number) (nat_le p.number high) parts.0 in
    let below = leb-true p.number high ends.1 in
    both-true (nat_le from p.number) (nat_le p.number to) (rises at p.number to (ps ++ qs)) ends.0
    (le-leb p.number to (omega (arith, below, top)))
    (rises-last p.number to high ps qs below top parts.1 second)

-- A take of the entry with the number and minute, at a place in it.
abbrev pub taken : ℕ → ℕ → ℕ × Take → EntryTake
taken n minute p = record { number = n; place = p.0; effective = minute; take = p.1 }

takes-rise : (n minute from : ℕ) (ps : List (ℕ × Take)) → from ≤ n
    → rises (λ (p : Placement). p.number) from n (filter_map placement_of (map (taken n minute) ps)) ≡ true
takes-rise n minute from [] le = refl
takes-rise n minute from ((place, take) ∷ ps) le =
    by take.purpose (λ low at_most. takes-rise n minute low ps at_most)
  where
    rest : List Placement
    rest = filter_map placement_of (map (taken n minute) ps)

    by : (q : Purpose) → ((low : ℕ) → low ≤ n → rises (λ (p : Placement). p.number) low n rest ≡ true)
        → rises (λ (p : Placement). p.number) from n
        (cons_option (placement_of (taken n minute (place, record take { purpose = q }))) rest) ≡ true
    by (Placed b d m s) more = both-true (nat_le from n) (nat_le n n) (rises (λ (p : Placement). p.number) n n rest)
        (le-leb from n le) (le-leb n n (omega arith)) (more n (omega arith))
    by (Rejected m s) more = more from le
    by Counted more = more from le

pub placed-next : (H : History) (e : Entry)
    → placements_of (e ∷ H) ≡ placements_of H ++ filter_map placement_of (entry_takes H e)
unfolding takes_of
placed-next H e = filter_map-append placement_of (takes_of H) (entry_takes H e)

rises-higher : (from to top : ℕ) (ps : List Placement) → to ≤ top
    → rises (λ (p : Placement). p.number) from to ps ≡ true
    → rises (λ (p : Placement). p.number) from top ps ≡ true
rises-higher from to top [] le is = refl
rises-higher from to top (p ∷ ps) le is =
    let at : Placement → ℕ = λ (p : Placement). p.number in
    let parts = and_parts (nat_le from p.number && nat_le p.number to) (rises at p.number to ps) is in
    let ends = and_parts (nat_le from p.number) (nat_le p.number to) parts.0 in
    let below = leb-true p.number to ends.1 in
    both-true (nat_le from p.number) (nat_le p.number top) (rises at p.number top ps) ends.0
    (le-leb p.number top (omega (arith, below, le))) (rises-higher p.number to top ps le parts.1)

pub one-more : (H : History) (s : Stamped) → pieces_rise (length H) (placements_of H) ≡ true
    → pieces_rise (length (accept H s)) (placements_of (accept H s)) ≡ true
one-more H s is =
    ap (λ k. pieces_rise k (placements_of (accept H s))) (omega arith)
    ∙ ap (pieces_rise (length H + 1)) (placed-next H (entry_of H s))
    ∙ rises-last 1 (length H + 1) (length H + 1) (placements_of H) newly (omega arith) (omega arith)
    (rises-higher 1 (length H) (length H + 1) (placements_of H) (omega arith) is)
    (takes-rise (length H + 1) (entry_of H s).effective (length H + 1)
    (enumerate_from 1 (takes_by H (entry_of H s).effective s.command)) (omega arith))
  where
    newly : List Placement
    newly = filter_map placement_of (entry_takes H (entry_of H s))

all-rise : (H : History) (ss : List Stamped) → pieces_rise (length H) (placements_of H) ≡ true
    → pieces_rise (length (history_from H ss)) (placements_of (history_from H ss)) ≡ true
all-rise H [] is = is
all-rise H (s ∷ ss) is = all-rise (accept H s) ss (one-more H s is)

pub none-placed : pieces_rise 0 (placements_of []) ≡ true
unfolding takes_of
none-placed = refl

pub placements-rise : (commands : List Stamped)
    → pieces_rise (length commands) (placements_of (history_of commands)) ≡ true
placements-rise commands =
    ap (λ k. pieces_rise k (placements_of (history_of commands))) (sym (length-of commands))
    ∙ all-rise [] commands none-placed
