-- Pieces that an entry of their slot makes doubtful.
use Rattle.desk_types.proofs.Common.{[], ◌&&◌, ◌+◌, ◌==◌, ◌∙◌, ◌≡◌, ap, arith, Bool, cond, false}
use Rattle.desk_types.proofs.Common.{is_some, list_any-same, List, Name, nat_lt, not, refl, same, Some}
use Rattle.desk_types.proofs.Common.{sym, true, ℕ}
use Rattle.desk_laws.specs.TapeOrder.{restarts}
use Rattle.desk_types.specs.declared.command.Command.{Command}
use Rattle.desk_types.specs.declared.command.Command.TheVariants.{MaterialsLoaded, MaterialsUnloaded}
use Rattle.desk_types.specs.declared.command.Entry.{Entry}
use Rattle.desk_types.specs.declared.command.Stamped.{Stamped}
use Rattle.desk_types.specs.declared.placement.Placement.{Placement}
use Rattle.line_book.specs.declared.note.Matter.{Matter}
use Rattle.line_book.specs.declared.note.Matter.TheVariants.{Handling, Differs}
use Rattle.line_book.specs.declared.note.Note.{Note}
use Rattle.line_book.specs.Book.{Book}
use Rattle.line_book.specs.Doubt.{is_restarted, is_unsettled, unsettles}
use Rattle.line_book.specs.Restored.{history_of}
use Rattle.line_doubt.specs.declared.mark.Mark.{Mark}
use Rattle.line_doubt.specs.Marks.{best_before, MarksRise, number_above, value_of}
use Rattle.line_doubt.specs.Reasons.{is_unsettled_by}
use Rattle.line_doubt.specs.Sources.{ask_of, is_unsettled_by_any, restart_mark, restart_marks, unsettled_by, unsettled_mark}
use Rattle.line_doubt.specs.Sources.{unsettled_marks}
use Rattle.line_doubt.proofs.Greatest.{any-above, best-value, greatest, greatest_before, is_mark, never, number-found, number-told}
use Rattle.line_doubt.proofs.Greatest.{value_before, zero-max}
use Rattle.line_doubt.proofs.Histories.{any-chosen, greatest-chosen, greatest-of, marks-rise, numbered, said, told}
use Rattle.line_doubt.proofs.Rising.{rise-lower}

-- ---- restarts

off : (a b : Bool) (k : ℕ) → ((a && b) && false) ≡ nat_lt k 0
off true true k = sym (never k)
off true false k = sym (never k)
off false b k = sym (never k)

gate : (k n : ℕ) (b t : Bool) → ((nat_lt k n && b) && t) ≡ nat_lt k (cond b (cond t n 0) 0)
gate k n true true = both (nat_lt k n)
  where
    both : (a : Bool) → ((a && true) && true) ≡ a
    both true = refl
    both false = refl
gate k n true false = off (nat_lt k n) true k
gate k n false t = none (nat_lt k n) t ∙ sym (never k)
  where
    none : (a t : Bool) → ((a && false) && t) ≡ false
    none true t = refl
    none false t = refl

restarts-at : (machine slot : Name) (from to n : ℕ) (c : Command)
    → ((nat_lt from n && nat_lt n to) && restarts machine slot c) ≡ nat_lt from
    (said machine slot to (restart_mark n c))
restarts-at machine slot from to n (MaterialsLoaded m s reel) =
    gate from n (nat_lt n to) (same m machine && same s slot)
restarts-at machine slot from to n (MaterialsUnloaded m s) =
    gate from n (nat_lt n to) (same m machine && same s slot)
restarts-at machine slot from to n c = off (nat_lt from n) (nat_lt n to) from

pub restarted-since : (commands : List Stamped) (machine slot : Name) (from to : ℕ)
    → is_restarted (history_of commands) machine slot from to
    ≡ nat_lt from (greatest (value_before machine slot to) (restart_marks commands))
restarted-since commands machine slot from to =
    list_any-same (λ (e : Entry). (nat_lt from e.number && nat_lt e.number to)
    && restarts machine slot e.stamped.command)
    (λ (e : Entry). nat_lt from (said machine slot to (restart_mark e.number e.stamped.command)))
    (λ e. restarts-at machine slot from to e.number e.stamped.command) (history_of commands)
    ∙ any-above (λ (e : Entry). said machine slot to (restart_mark e.number e.stamped.command)) from
    (history_of commands)
    ∙ ap (nat_lt from) (greatest-of (λ n s. restart_mark n s.command) machine slot to 1 [] commands refl
    ∙ zero-max (greatest (value_before machine slot to) (restart_marks commands)))

pub restarts-rise : (commands : List Stamped) → MarksRise 0 (restart_marks commands)
restarts-rise commands = rise-lower (λ (m : Mark). m.at) 0 1 (restart_marks commands) (omega arith)
    (marks-rise (λ n s. restart_mark n s.command) (λ n s m is. at n s.command m is) 1 commands)
  where
    at : (n : ℕ) (c : Command) (m : Mark) → restart_mark n c ≡ Some m → m.at ≡ n
    at n (MaterialsLoaded a b reel) m is = cc
    at n (MaterialsUnloaded a b) m is = cc
    at n c m is = cc

-- ---- entries

gate-since : (k after : ℕ) (b t : Bool)
    → (t && (b && not (nat_lt after k))) ≡ nat_lt k (cond b (cond t (after + 1) 0) 0)
gate-since k after true true = grind arith
gate-since k after true false = sym (never k)
gate-since k after false true = sym (never k)
gate-since k after false false = sym (never k)

unsettles-at : (machine slot : Name) (to k number after : ℕ) (m : Matter)
    → (unsettles machine slot m && (nat_lt after to && not (nat_lt after k)))
    ≡ nat_lt k (said machine slot to (unsettled_mark number after m))
unsettles-at machine slot to k number after (Handling m s reel word) =
    gate-since k after (nat_lt after to) (same m machine && same s slot)
unsettles-at machine slot to k number after (Differs m s board reel desk_reel) =
    gate-since k after (nat_lt after to) (same m machine && same s slot)
unsettles-at machine slot to k number after m = sym (never k)

unsettled-note : (commands : List Stamped) (p : Placement) (n : Note)
    → is_unsettled (history_of commands) n p
    ≡ nat_lt (greatest_before (restart_marks commands) (ask_of p))
    (said p.machine p.slot p.number (unsettled_mark n.number n.after n.matter))
unsettled-note commands p n =
    ap (λ b. unsettles p.machine p.slot n.matter && (nat_lt n.after p.number && not b))
    (restarted-since commands p.machine p.slot n.after p.number)
    ∙ unsettles-at p.machine p.slot p.number (greatest_before (restart_marks commands) (ask_of p))
    n.number n.after n.matter

-- The last refused handling or difference of the slot came after its last load or unload.
unsettled-since : (commands : List Stamped) (B : Book) (p : Placement)
    → is_unsettled_by_any (history_of commands) B p
    ≡ nat_lt (greatest_before (restart_marks commands) (ask_of p)) (greatest_before (unsettled_marks B) (ask_of p))
unsettled-since commands B p =
    list_any-same (λ n. is_unsettled (history_of commands) n p)
    (λ (n : Note). nat_lt restarted (said p.machine p.slot p.number (unsettled_mark n.number n.after n.matter)))
    (unsettled-note commands p) B
    ∙ any-above (λ (n : Note). said p.machine p.slot p.number (unsettled_mark n.number n.after n.matter)) restarted B
    ∙ ap (nat_lt restarted)
    (greatest-chosen (λ (n : Note). unsettled_mark n.number n.after n.matter) p.machine p.slot p.number B)
  where
    restarted : ℕ
    restarted = greatest_before (restart_marks commands) (ask_of p)

pub unsettled-some : (commands : List Stamped) (B : Book) (p : Placement)
    → is_some (unsettled_by commands B p) ≡ is_unsettled_by_any (history_of commands) B p
unsettled-some commands B p =
    number-found (unsettled_marks B) (ask_of p) (value_of (best_before (restart_marks commands) (ask_of p)))
    ∙ ap (λ k. nat_lt k (greatest_before (unsettled_marks B) (ask_of p)))
    (best-value (restart_marks commands) (ask_of p))
    ∙ sym (unsettled-since commands B p)

marked-by : (number after : ℕ) (c : Matter) (m : Mark) → unsettled_mark number after c ≡ Some m → m.number ≡ number
marked-by number after (Handling a b reel word) m is = cc
marked-by number after (Differs a b board reel desk_reel) m is = cc
marked-by number after c m is = cc

-- The number is that of an entry that makes the piece doubtful.
pub unsettled-number : (commands : List Stamped) (B : Book) (p : Placement) (number : ℕ)
    → unsettled_by commands B p ≡ Some number → is_unsettled_by (history_of commands) B p number ≡ true
unsettled-number commands B p number is =
    list_any-same (λ (n : Note). (n.number == number) && is_unsettled (history_of commands) n p)
    (λ (n : Note). told (is_mark number restarted (ask_of p)) (unsettled_mark n.number n.after n.matter))
    (λ n. ap (λ b. (n.number == number) && b) (unsettled-note commands p n)
    ∙ numbered number restarted n.number (ask_of p) (unsettled_mark n.number n.after n.matter)
    (marked-by n.number n.after n.matter)) B
    ∙ any-chosen (λ (n : Note). unsettled_mark n.number n.after n.matter) (is_mark number restarted (ask_of p)) B
    ∙ number-told (unsettled_marks B) (ask_of p) restarted number
    (ap (number_above (best_before (unsettled_marks B) (ask_of p)))
    (sym (best-value (restart_marks commands) (ask_of p)))
    ∙ is)
  where
    restarted : ℕ
    restarted = greatest_before (restart_marks commands) (ask_of p)
