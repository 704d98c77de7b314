-- The history after an answer to a command, and the tables that a crash may leave.
use Rattle.desk_types.proofs.Common.{[], ◌<◌, ◌∙◌, ◌∷◌, ◌≡◌, ◌⊎◌, accept, ap, Bool, Err, false, History, IfOk}
use Rattle.desk_types.proofs.Common.{if◌then◌else◌, inl, inr, is_some, IsChange, length, MatchBool, None, Ok}
use Rattle.desk_types.proofs.Common.{OnOk, Option, refl, reply_to, Result, same, Some, subst, sym, true}
use Rattle.desk_types.proofs.Common.{unwrap_or}
use Rattle.desk_laws.proofs.Common.{Stamped, Two}
use Rattle.line_tables.proofs.Common.{HoldsAt, Trees}
use Rattle.desk_answers.specs.Commands.{answer_under, command_after, command_answer, earlier_answer, is_full}
use Rattle.desk_answers.specs.Commands.{judged_answer}
use Rattle.desk_answers.specs.Repeats.{is_same}
use Rattle.desk_answers.specs.declared.answer.Answer.{Answer}
use Rattle.desk_answers.specs.declared.answer.Answer.TheVariants.{Accepted, DeskFull, IdReused, Refused}
use Rattle.desk_answers.specs.declared.answer.Answer.TheVariants.{Unavailable}
use Rattle.desk_types.specs.declared.answer.Reply.{Reply}
use Rattle.desk_types.specs.declared.change.Change.{Change}
use Rattle.line_replay.specs.Rows.{ledger_tables}
use Rattle.line_schema.specs.Stands.{answer_in, Kept, kept_after, Leaves, NewlyLeaves}
use Rattle.line_schema.specs.declared.unavailable.Unavailable.{Unavailable as Fault}
use Rattle.desk_types.specs.declared.answer.Reply.TheVariants as reply

-- ---- the definition never answers Unavailable

under_never : (b : Bool) (n : _) (text : _) → (if b then Accepted n text else IdReused n) ≡ Unavailable → ⊥
under_never true n text h = cc
under_never false n text h = cc

earlier_never : (H : History) (s : Stamped) → earlier_answer H s ≡ Some Unavailable → ⊥
earlier_never [] s h = cc
earlier_never (e ∷ G) s h = by (same e.stamped.uid s.uid) (earlier_never G s) h
  where
    by : (b : Bool) → (earlier_answer G s ≡ Some Unavailable → ⊥) → (if b then Some (answer_under G e s) else earlier_answer G s) ≡ Some Unavailable → ⊥
    by true never h = let it : answer_under G e s ≡ Unavailable = cc in under_never (is_same e.stamped s) _ _ it
    by false never h = never h

judged_never : (H : History) (s : Stamped) (r : Reply) → judged_answer H s r ≡ Unavailable → ⊥
judged_never H s (reply.Accepted detail) h = cc
judged_never H s (reply.Refused refusal) h = cc

pub answer_never : (L : Kept) (s : Stamped) → command_answer Two L.greatest L.history s ≡ Unavailable → ⊥
answer_never L s h = by (earlier_answer L.history s) refl (is_full L.greatest L.history) h
  where
    by : (o : Option Answer) → earlier_answer L.history s ≡ o → (b : Bool) → unwrap_or o (if b then DeskFull else judged_answer L.history s (reply_to Two L.history s)) ≡ Unavailable → ⊥
    by (Some a) is b h = earlier_never L.history s (is ∙ ap Some h)
    by None is true h = cc
    by None is false h = judged_never L.history s _ h

pub kept_so : (L : Kept) (s : Stamped) (a : Answer) → a ≡ command_answer Two L.greatest L.history s → kept_after L s a ≡ record L { history = command_after Two L.greatest L.history s }
kept_so L s (Accepted n text) h = refl
kept_so L s (Refused r) h = refl
kept_so L s (IdReused n) h = refl
kept_so L s DeskFull h = refl
kept_so L s Unavailable h = absurd (answer_never L s (sym h))

-- ---- crashes

abbrev pub left_with : Kept → Stamped → Trees → Type 0
left_with L s trees = HoldsAt (ledger_tables L.greatest (accept L.history s)) trees

pub accepted_leaves : (L : Kept) (s : Stamped) (change : Change) (r : Result Answer Fault) (before : Type 0) (left : Trees → Type 0) (trees : Trees) → IsChange Two L.history s change → length L.history < L.greatest
    → IfOk r (λ a. a ≡ judged_answer L.history change.stamped (reply.Accepted change.detail)) → OnOk r ((t : Trees) → left t → left_with L change.stamped t)
    → before ⊎ left_with L change.stamped trees → left trees → NewlyLeaves L s (answer_in r) before trees
accepted_leaves L s change (Ok a) before left trees is room told alone may h =
    subst (λ b. NewlyLeaves L s b before trees) (sym told) (subst (λ (t : Stamped). left_with L t trees) (ap (λ (c : Change). c.stamped) is.value) (alone trees h))
accepted_leaves L s change (Err e) before left trees is room told alone (inl was) h = inl was
accepted_leaves L s change (Err e) before left trees is room told alone (inr made) h =
    inr (record { accepted = is.accepted; room = room }, subst (λ (t : Stamped). left_with L t trees) (ap (λ (c : Change). c.stamped) is.value) made)

pub newly_weaker : (L : Kept) (s : Stamped) (a : Answer) (before first : Type 0) (trees : Trees) → (before → first) → NewlyLeaves L s a before trees → NewlyLeaves L s a first trees
newly_weaker L s (Accepted n text) before first trees f h = h
newly_weaker L s (Refused r) before first trees f h = f h
newly_weaker L s (IdReused n) before first trees f h = f h
newly_weaker L s DeskFull before first trees f h = f h
newly_weaker L s Unavailable before first trees f (inl h) = inl (f h)
newly_weaker L s Unavailable before first trees f (inr h) = inr h

pub leaves_newly : (L : Kept) (s : Stamped) (a : Answer) (before first : Type 0) (trees : Trees) → earlier_answer L.history s ≡ None → (before → first) → NewlyLeaves L s a before trees → Leaves L s a first trees
leaves_newly L s a before first trees none f h =
    subst (λ (o : Option Answer). MatchBool (is_some o) first (NewlyLeaves L s a first trees)) (sym none) (newly_weaker L s a before first trees f h)
