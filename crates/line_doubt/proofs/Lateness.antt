-- Pieces of late messages.
use Rattle.desk_types.proofs.Common.{[], ◌&&◌, ◌+◌, ◌-◌, ◌<◌, ◌==◌, ◌∙◌, ◌∷◌, ◌≡◌, ◌≤◌, ◌||◌, accept, All, All-cons, All-head}
use Rattle.desk_types.proofs.Common.{All-nil, All-tail, ap, ap₂, arith, Bool, cond, entry_of, eq-eqb, eqb-true, false, get_or, History}
use Rattle.desk_types.proofs.Common.{length, length-map, list_any, list_any-same, List, lt-ltb, ltb-false, ltb-true, map, Name, nat_lt}
use Rattle.desk_types.proofs.Common.{None, Option, or_left, or_right, inl, inr, is_some, refl, reverse, same, Some, subst, suc, sym, true, zero, ℕ}
use Rattle.std.proofs.lemmas.Bool.{le-ltb}
use Rattle.std.specs.List.{cons_option}
use Rattle.desk_types.specs.declared.command.Command.{Command}
use Rattle.desk_types.specs.declared.command.Command.TheVariants.{MaterialsLoaded, MaterialsSpliced, MaterialsUnloaded}
use Rattle.desk_types.specs.declared.command.Entry.{Entry}
use Rattle.desk_types.specs.declared.command.Stamped.{Stamped}
use Rattle.desk_types.specs.declared.limits.TheConstants.{GREATEST_MINUTE}
use Rattle.desk_types.specs.declared.placement.Placement.{Placement}
use Rattle.line_book.specs.Book.{handles}
use Rattle.line_book.specs.Doubt.{is_late}
use Rattle.line_book.specs.Restored.{history_from, history_of}
use Rattle.line_doubt.specs.declared.mark.Ask.{Ask}
use Rattle.line_doubt.specs.declared.mark.Mark.{Mark}
use Rattle.line_doubt.specs.Late.{ask_from_end, from_end, handled_from_end, handled_mark, handled_marks, late_by, minutes_of}
use Rattle.line_doubt.specs.Late.{own_minute}
use Rattle.line_doubt.specs.Marks.{best_before, MarksRise, number_above, Rise}
use Rattle.line_doubt.specs.Reasons.{is_late_by}
use Rattle.line_doubt.specs.Sources.{ask_of, marks_by}
use Rattle.line_doubt.proofs.Greatest.{any-above, greatest, greatest_before, is_mark, never, number-found, number-told}
use Rattle.line_doubt.proofs.Greatest.{value_before, zero-max}
use Rattle.line_doubt.proofs.Histories.{any-of, any-reversed, greatest-of, marks-rise, numbered, said, told}
use Rattle.line_doubt.proofs.Lists.{any-or, any-same-where, or-one, or-some}
use Rattle.line_doubt.proofs.Rising.{Fall, greatest-reversed, reversed-rises, rise-lower}

-- ---- the entry with a number

stays : (P : Entry → Bool) (n : ℕ) → ((e : Entry) → n < e.number → P e ≡ false) → (G : History) (ss : List Stamped)
    → n ≤ length G → list_any P (history_from G ss) ≡ list_any P G
stays P n none G [] le = refl
stays P n none G (s ∷ ss) le = stays P n none (accept G s) ss (omega (arith, le))
    ∙ ap (λ b. b || list_any P G) (none (entry_of G s) (omega (arith, le)))

-- Whether the entry has the number, and its number and minute pass the test.
abbrev is_at_number : (ℕ → ℕ → Bool) → ℕ → Entry → Bool
is_at_number F n e = (e.number == n) && F e.number e.stamped.minute

other : (a b : ℕ) → (a ≡ b → ⊥) → (x : Bool) → ((a == b) && x) ≡ false
other a b apart x = by (a == b) refl
  where
    by : (t : Bool) → (a == b) ≡ t → (t && x) ≡ false
    by true is = absurd (apart (eqb-true a b is))
    by false is = refl

found-at : (F : ℕ → ℕ → Bool) (n : ℕ) (G : History) (ss : List Stamped) (i : ℕ) → n ≡ length G + 1 + i → i < length ss
    → list_any (is_at_number F n) G ≡ false
    → list_any (is_at_number F n) (history_from G ss) ≡ F n (get_or (minutes_of ss) i 0)
found-at F n G [] i is lt none = absurd (omega (arith, lt))
found-at F n G (s ∷ ss) zero is lt none =
    stays (is_at_number F n) n
    (λ e above. other e.number n (λ same. omega (arith, above, same)) (F e.number e.stamped.minute))
    (accept G s) ss (omega (arith, is))
    ∙ ap (λ b. ((length G + 1 == n) && F (length G + 1) s.minute) || b) none
    ∙ ap (λ b. (b && F (length G + 1) s.minute) || false) (eq-eqb (length G + 1) n (omega (arith, is)))
    ∙ alone (F (length G + 1) s.minute)
    ∙ ap (λ k. F k s.minute) (omega (arith, is))
  where
    alone : (b : Bool) → ((true && b) || false) ≡ b
    alone true = refl
    alone false = refl
found-at F n G (s ∷ ss) (suc i) is lt none =
    found-at F n (accept G s) ss i (omega (arith, is)) (omega (arith, lt))
    (ap (λ b. b || list_any (is_at_number F n) G)
    (other (length G + 1) n (λ same. omega (arith, is, same)) (F (length G + 1) s.minute)) ∙ none)

-- ---- tests of entries

abbrev Fits : ℕ → ℕ → Entry → Type 0
Fits N C e = (e.number ≤ N) × (e.stamped.minute ≤ C)

entries-fit : (N C : ℕ) (G : History) (ss : List Stamped) → length G + length ss ≤ N → All (λ n. n ≤ C) (minutes_of ss)
    → All (Fits N C) G → All (Fits N C) (history_from G ss)
entries-fit N C G [] le minutes all = all
entries-fit N C G (s ∷ ss) le minutes all =
    entries-fit N C (accept G s) ss (omega (arith, le)) (All-tail (λ n. n ≤ C) s.minute (minutes_of ss) minutes)
    (All-cons (Fits N C) (entry_of G s) G
    (omega (arith, le), All-head (λ n. n ≤ C) s.minute (minutes_of ss) minutes) all)

-- ---- a handling before the install, with a later minute

gate : (k v : ℕ) (b t : Bool) → (t && (b && nat_lt k v)) ≡ nat_lt k (cond b (cond t v 0) 0)
gate k v true true = refl
gate k v true false = sym (never k)
gate k v false true = sym (never k)
gate k v false false = sym (never k)

handled-before : (machine slot : Name) (n own at minute number : ℕ) (c : Command)
    → (handles machine slot c && (nat_lt at n && nat_lt own minute))
    ≡ nat_lt own (said machine slot n (handled_mark at minute number c))
handled-before machine slot n own at minute number (MaterialsLoaded m s reel) =
    gate own minute (nat_lt at n) (same m machine && same s slot)
handled-before machine slot n own at minute number (MaterialsSpliced m s reel) =
    gate own minute (nat_lt at n) (same m machine && same s slot)
handled-before machine slot n own at minute number (MaterialsUnloaded m s) =
    gate own minute (nat_lt at n) (same m machine && same s slot)
handled-before machine slot n own at minute number c = sym (never own)

before-told : (commands : List Stamped) (machine slot : Name) (n own : ℕ)
    → list_any (λ (e : Entry). handles machine slot e.stamped.command
    && (nat_lt e.number n && nat_lt own e.stamped.minute)) (history_of commands)
    ≡ nat_lt own (greatest (value_before machine slot n) (handled_marks commands))
before-told commands machine slot n own =
    list_any-same (λ (e : Entry). handles machine slot e.stamped.command
    && (nat_lt e.number n && nat_lt own e.stamped.minute))
    (λ (e : Entry). nat_lt own
    (said machine slot n (handled_mark e.number e.stamped.minute e.number e.stamped.command)))
    (λ e. handled-before machine slot n own e.number e.stamped.minute e.number e.stamped.command) (history_of commands)
    ∙ any-above (λ (e : Entry). said machine slot n
    (handled_mark e.number e.stamped.minute e.number e.stamped.command)) own
    (history_of commands)
    ∙ ap (nat_lt own) (greatest-of
    (λ number s. handled_mark number s.minute number s.command) machine slot n 1 [] commands refl
    ∙ zero-max (greatest (value_before machine slot n) (handled_marks commands)))

-- ---- a handling behind the install, with an earlier minute

turned : (a b N : ℕ) → a ≤ N → b ≤ N → nat_lt a b ≡ nat_lt (N - b) (N - a)
turned a b N low high = by (nat_lt a b) refl
  where
    by : (t : Bool) → nat_lt a b ≡ t → t ≡ nat_lt (N - b) (N - a)
    by true is = let lt = ltb-true a b is in sym (lt-ltb (N - b) (N - a) (omega (arith, lt, low, high)))
    by false is = let le = ltb-false a b is in sym (le-ltb (N - b) (N - a) (omega (arith, le, low, high)))

handled-behind : (machine slot : Name) (n own number minute N C : ℕ) (c : Command) → n ≤ N → number ≤ N
    → own ≤ C → minute ≤ C
    → (handles machine slot c && (nat_lt n number && nat_lt minute own))
    ≡ nat_lt (C - own) (said machine slot (N - n) (handled_mark (N - number) (C - minute) number c))
handled-behind machine slot n own number minute N C c n_le number_le own_le minute_le =
    ap₂ (λ x y. handles machine slot c && (x && y)) (turned n number N n_le number_le)
    (turned minute own C minute_le own_le)
    ∙ handled-before machine slot (N - n) (C - own) (N - number) (C - minute) number c

behind-told : (commands : List Stamped) (machine slot : Name) (n own : ℕ) → n ≤ length commands → own ≤ GREATEST_MINUTE
    → All (λ m. m ≤ GREATEST_MINUTE) (minutes_of commands)
    → list_any (λ (e : Entry). handles machine slot e.stamped.command
    && (nat_lt n e.number && nat_lt e.stamped.minute own)) (history_of commands)
    ≡ nat_lt (GREATEST_MINUTE - own)
    (greatest (value_before machine slot (length commands - n)) (handled_from_end commands))
behind-told commands machine slot n own n_le own_le minutes =
    any-same-where (Fits N C) (λ (e : Entry). handles machine slot e.stamped.command
    && (nat_lt n e.number && nat_lt e.stamped.minute own))
    (λ (e : Entry). nat_lt (C - own) (said machine slot (N - n) (from_end N e.number e.stamped)))
    (λ e fits. handled-behind machine slot n own e.number e.stamped.minute N C e.stamped.command n_le fits.0
    own_le fits.1)
    (history_of commands) (entries-fit N C [] commands (omega arith) minutes (All-nil (Fits N C)))
    ∙ any-above (λ (e : Entry). said machine slot (N - n) (from_end N e.number e.stamped)) (C - own)
    (history_of commands)
    ∙ ap (nat_lt (C - own)) (greatest-of (from_end N) machine slot (N - n) 1 [] commands refl
    ∙ zero-max (greatest (value_before machine slot (N - n)) (marks_by (from_end N) 1 commands))
    ∙ sym (greatest-reversed (value_before machine slot (N - n)) (marks_by (from_end N) 1 commands)))
  where
    N : ℕ
    N = length commands

    C : ℕ
    C = GREATEST_MINUTE

-- ---- both

late-told : (commands : List Stamped) (p : Placement) → (0 < p.number) × (p.number ≤ length commands)
    → All (λ m. m ≤ GREATEST_MINUTE) (minutes_of commands)
    → is_late (history_of commands) p
    ≡ (nat_lt (GREATEST_MINUTE - own_minute (minutes_of commands) p)
    (greatest_before (handled_from_end commands) (ask_from_end (length commands) p))
    || nat_lt (own_minute (minutes_of commands) p) (greatest_before (handled_marks commands) (ask_of p)))
late-told commands p within minutes =
    found-at test p.number [] commands (p.number - 1) (omega (arith, above)) (omega (arith, above, below)) refl
    ∙ list_any-same (λ (e : Entry). handles p.machine p.slot e.stamped.command
    && ((nat_lt p.number e.number && nat_lt e.stamped.minute own) ||
    (nat_lt e.number p.number && nat_lt own e.stamped.minute)))
    (λ (e : Entry). behind e || before e)
    (λ e. shared (handles p.machine p.slot e.stamped.command) (nat_lt p.number e.number && nat_lt e.stamped.minute own)
    (nat_lt e.number p.number && nat_lt own e.stamped.minute)) H
    ∙ any-or behind before H
    ∙ ap₂ (λ s t. s || t) (behind-told commands p.machine p.slot p.number own below own_le minutes)
    (before-told commands p.machine p.slot p.number own)
  where
    H : History
    H = history_of commands

    above : 0 < p.number
    above = within.0

    below : p.number ≤ length commands
    below = within.1

    own : ℕ
    own = own_minute (minutes_of commands) p

    own_le : own ≤ GREATEST_MINUTE
    own_le = let long = length-map commands (λ (s : Stamped). s.minute) in
        minutes (p.number - 1) 0 (omega (arith, within.0, within.1, long))

    behind : Entry → Bool
    behind e = handles p.machine p.slot e.stamped.command && (nat_lt p.number e.number && nat_lt e.stamped.minute own)

    before : Entry → Bool
    before e = handles p.machine p.slot e.stamped.command && (nat_lt e.number p.number && nat_lt own e.stamped.minute)

    test : ℕ → ℕ → Bool
    test n m = list_any (λ (e : Entry). handles p.machine p.slot e.stamped.command
        && ((nat_lt n e.number && nat_lt e.stamped.minute m) || (nat_lt e.number n && nat_lt m e.stamped.minute))) H

    shared : (h x y : Bool) → (h && (x || y)) ≡ ((h && x) || (h && y))
    shared true x y = refl
    shared false x y = refl

-- ---- the number of a swapped handling

pub late-some : (commands : List Stamped) (p : Placement) → (0 < p.number) × (p.number ≤ length commands)
    → All (λ m. m ≤ GREATEST_MINUTE) (minutes_of commands)
    → is_some (late_by commands p) ≡ is_late (history_of commands) p
late-some commands p within minutes =
    or-some (number_above (best_before (handled_from_end commands) (ask_from_end (length commands) p))
    (GREATEST_MINUTE - own_minute (minutes_of commands) p))
    (number_above (best_before (handled_marks commands) (ask_of p)) (own_minute (minutes_of commands) p))
    ∙ ap₂ (λ s t. s || t)
    (number-found (handled_from_end commands) (ask_from_end (length commands) p)
    (GREATEST_MINUTE - own_minute (minutes_of commands) p))
    (number-found (handled_marks commands) (ask_of p) (own_minute (minutes_of commands) p))
    ∙ sym (late-told commands p within minutes)

numbered-by : (at value number : ℕ) (c : Command) (m : Mark) → handled_mark at value number c ≡ Some m
    → m.number ≡ number
numbered-by at value number (MaterialsLoaded a b reel) m is = cc
numbered-by at value number (MaterialsSpliced a b reel) m is = cc
numbered-by at value number (MaterialsUnloaded a b) m is = cc
numbered-by at value number c m is = cc

before-number : (commands : List Stamped) (p : Placement) (own number : ℕ)
    → list_any (λ (e : Entry). (e.number == number) && (handles p.machine p.slot e.stamped.command
    && (nat_lt e.number p.number && nat_lt own e.stamped.minute))) (history_of commands)
    ≡ list_any (is_mark number own (ask_of p)) (handled_marks commands)
before-number commands p own number =
    list_any-same (λ (e : Entry). (e.number == number) && (handles p.machine p.slot e.stamped.command
    && (nat_lt e.number p.number && nat_lt own e.stamped.minute)))
    (λ (e : Entry). told (is_mark number own (ask_of p))
    (handled_mark e.number e.stamped.minute e.number e.stamped.command))
    (λ e. ap (λ b. (e.number == number) && b)
    (handled-before p.machine p.slot p.number own e.number e.stamped.minute e.number e.stamped.command)
    ∙ numbered number own e.number (ask_of p) (handled_mark e.number e.stamped.minute e.number e.stamped.command)
    (numbered-by e.number e.stamped.minute e.number e.stamped.command)) (history_of commands)
    ∙ any-of (λ number s. handled_mark number s.minute number s.command) (is_mark number own (ask_of p)) 1 [] commands
    refl

behind-number : (commands : List Stamped) (p : Placement) (own number : ℕ) → p.number ≤ length commands
    → own ≤ GREATEST_MINUTE → All (λ m. m ≤ GREATEST_MINUTE) (minutes_of commands)
    → list_any (λ (e : Entry). (e.number == number) && (handles p.machine p.slot e.stamped.command
    && (nat_lt p.number e.number && nat_lt e.stamped.minute own))) (history_of commands)
    ≡ list_any (is_mark number (GREATEST_MINUTE - own) (ask_from_end (length commands) p)) (handled_from_end commands)
behind-number commands p own number n_le own_le minutes =
    any-same-where (Fits N C) (λ (e : Entry). (e.number == number) && (handles p.machine p.slot e.stamped.command
    && (nat_lt p.number e.number && nat_lt e.stamped.minute own)))
    (λ (e : Entry). told (is_mark number (C - own) (ask_from_end N p)) (from_end N e.number e.stamped))
    (λ e fits. ap (λ b. (e.number == number) && b)
    (handled-behind p.machine p.slot p.number own e.number e.stamped.minute N C e.stamped.command n_le fits.0
    own_le fits.1)
    ∙ numbered number (C - own) e.number (ask_from_end N p) (from_end N e.number e.stamped)
    (numbered-by (N - e.number) (C - e.stamped.minute) e.number e.stamped.command))
    (history_of commands) (entries-fit N C [] commands (omega arith) minutes (All-nil (Fits N C)))
    ∙ any-of (from_end N) (is_mark number (C - own) (ask_from_end N p)) 1 [] commands refl
    ∙ sym (any-reversed (is_mark number (C - own) (ask_from_end N p)) (marks_by (from_end N) 1 commands))
  where
    N : ℕ
    N = length commands

    C : ℕ
    C = GREATEST_MINUTE

-- The number is that of a handling that is swapped with the install.
pub late-number : (commands : List Stamped) (p : Placement) → (0 < p.number) × (p.number ≤ length commands)
    → All (λ m. m ≤ GREATEST_MINUTE) (minutes_of commands) → (number : ℕ) → late_by commands p ≡ Some number
    → is_late_by (history_of commands) p number ≡ true
late-number commands p within minutes number is =
    found-at test p.number [] commands (p.number - 1) (omega (arith, within.0)) (omega (arith, within.0, within.1)) refl
    ∙ list_any-same (λ (e : Entry). (e.number == number) && (handles p.machine p.slot e.stamped.command
    && ((nat_lt p.number e.number && nat_lt e.stamped.minute own) ||
    (nat_lt e.number p.number && nat_lt own e.stamped.minute))))
    (λ (e : Entry). behind e || before e)
    (λ e. shared (e.number == number) (handles p.machine p.slot e.stamped.command)
    (nat_lt p.number e.number && nat_lt e.stamped.minute own)
    (nat_lt e.number p.number && nat_lt own e.stamped.minute)) H
    ∙ any-or behind before H
    ∙ elim (or-one (number_above (best_before (handled_from_end commands) (ask_from_end N p)) (GREATEST_MINUTE - own))
    (number_above (best_before (handled_marks commands) (ask_of p)) own) number is) [
      | inl later ↦ or_left (list_any behind H) (list_any before H)
          (behind-number commands p own number within.1 own_le minutes
          ∙ number-told (handled_from_end commands) (ask_from_end N p) (GREATEST_MINUTE - own) number later)
      | inr earlier ↦ or_right (list_any behind H) (list_any before H)
          (before-number commands p own number
          ∙ number-told (handled_marks commands) (ask_of p) own number earlier)
    ]
  where
    H : History
    H = history_of commands

    N : ℕ
    N = length commands

    own : ℕ
    own = own_minute (minutes_of commands) p

    own_le : own ≤ GREATEST_MINUTE
    own_le = let long = length-map commands (λ (s : Stamped). s.minute) in
        minutes (p.number - 1) 0 (omega (arith, within.0, within.1, long))

    behind : Entry → Bool
    behind e = (e.number == number) && (handles p.machine p.slot e.stamped.command
        && (nat_lt p.number e.number && nat_lt e.stamped.minute own))

    before : Entry → Bool
    before e = (e.number == number) && (handles p.machine p.slot e.stamped.command
        && (nat_lt e.number p.number && nat_lt own e.stamped.minute))

    test : ℕ → ℕ → Bool
    test n m = list_any (λ (e : Entry). (e.number == number) && (handles p.machine p.slot e.stamped.command
        && ((nat_lt n e.number && nat_lt e.stamped.minute m) || (nat_lt e.number n && nat_lt m e.stamped.minute)))) H

    shared : (q h x y : Bool) → (q && (h && (x || y))) ≡ ((q && (h && x)) || (q && (h && y)))
    shared true true x y = refl
    shared true false x y = refl
    shared false h x y = refl

-- ---- places

marked-at : (at value number : ℕ) (c : Command) (m : Mark) → handled_mark at value number c ≡ Some m → m.at ≡ at
marked-at at value number (MaterialsLoaded a b reel) m is = cc
marked-at at value number (MaterialsSpliced a b reel) m is = cc
marked-at at value number (MaterialsUnloaded a b) m is = cc
marked-at at value number c m is = cc

pub handled-rise : (commands : List Stamped) → MarksRise 0 (handled_marks commands)
handled-rise commands = rise-lower (λ (m : Mark). m.at) 0 1 (handled_marks commands) (omega arith)
    (marks-rise (λ number s. handled_mark number s.minute number s.command)
    (λ n s m is. marked-at n s.minute n s.command m is) 1 commands)

fall-higher : {X : Type 0} (at : X → ℕ) (from high : ℕ) (xs : List X) → from ≤ high → Fall at from xs → Fall at high xs
fall-higher at from high [] le fall = tt
fall-higher at from high (x ∷ xs) le fall = let first = fall.0 in (omega (arith, le, first), fall.1)

marks-fall : (N n : ℕ) (ss : List Stamped) → Fall (λ (m : Mark). m.at) (N - n) (marks_by (from_end N) n ss)
marks-fall N n [] = tt
marks-fall N n (s ∷ ss) = by (from_end N n s) (λ m is. marked-at (N - n) (GREATEST_MINUTE - s.minute) n s.command m is)
    (fall-higher (λ (m : Mark). m.at) (N - (n + 1)) (N - n) (marks_by (from_end N) (n + 1) ss) (omega arith)
    (marks-fall N (n + 1) ss))
  where
    by : (o : Option Mark) → ((m : Mark) → o ≡ Some m → m.at ≡ N - n)
        → Fall (λ (m : Mark). m.at) (N - n) (marks_by (from_end N) (n + 1) ss)
        → Fall (λ (m : Mark). m.at) (N - n) (cons_option o (marks_by (from_end N) (n + 1) ss))
    by None is rest = rest
    by (Some m) is rest = let here = is m refl in (
      omega (arith, here),
      subst (λ k. Fall (λ (m : Mark). m.at) k (marks_by (from_end N) (n + 1) ss))
          (sym here) rest,
    )

pub from-end-rise : (commands : List Stamped) → MarksRise 0 (handled_from_end commands)
from-end-rise commands = reversed-rises (λ (m : Mark). m.at) (length commands - 1)
    (marks_by (from_end (length commands)) 1 commands)
    (marks-fall (length commands) 1 commands)

asks-fall : (N from : ℕ) (ps : List Placement) → Rise (λ (a : Ask). a.at) from (map ask_of ps)
    → Fall (λ (a : Ask). a.at) (N - from) (map (ask_from_end N) ps)
asks-fall N from [] rise = tt
asks-fall N from (p ∷ ps) rise = let first = rise.0 in (omega (arith, first), asks-fall N p.number ps rise.1)

pub asks-from-end-rise : (N : ℕ) (ps : List Placement) → Rise (λ (a : Ask). a.at) 0 (map ask_of ps)
    → Rise (λ (a : Ask). a.at) 0 (reverse (map (ask_from_end N) ps))
asks-from-end-rise N ps rise =
    reversed-rises (λ (a : Ask). a.at) (N - 0) (map (ask_from_end N) ps) (asks-fall N 0 ps rise)
