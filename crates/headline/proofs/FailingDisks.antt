-- What a crash leaves of a store after a command, if its disk may fail.
use Rattle.desk_types.proofs.Common.{◌||◌, ◌≡◌, ◌⊎◌, accept, Basis, Bool, change_of, false, if◌then◌else◌}
use Rattle.desk_types.proofs.Common.{inl, inr, is_some, MatchBool, None, Option, option_map_or, refusal_of}
use Rattle.desk_types.proofs.Common.{Some, subst, sym, true, unwrap_or}
use Rattle.desk_laws.proofs.Common.{Refusal, Rules, Stamped, Two}
use Rattle.line_tables.proofs.Common.{Ghosts, Trees}
use Rattle.desk_answers.specs.Commands.{command_after, command_answer, earlier_answer, is_full, judged_answer}
use Rattle.desk_answers.specs.Ledger.{IsAnswer, Ledger, ledger_after}
use Rattle.desk_answers.specs.declared.answer.Answer.{Answer}
use Rattle.desk_answers.specs.declared.answer.Answer.TheVariants.{Accepted, DeskFull, IdReused, Refused}
use Rattle.desk_answers.specs.declared.answer.Answer.TheVariants.{Unavailable}
use Rattle.headline.specs.Failing.{HoldsUpToOneMore, IsWatched, own_kept}
use Rattle.line_schema.proofs.UnansweredCommands.{left}
use Rattle.line_schema.specs.Stands.{Kept, kept_after, Leaves, ledger, NewlyLeaves}
use Rattle.line_schema.specs.declared.store.LineStore.{LineStore}
use Rattle.desk_types.specs.declared.answer.Reply.TheVariants as reply

module _ (L : Kept) (s : Stamped) (before : Type 0) (trees : Trees) (near : before → HoldsUpToOneMore L trees) where
  answered : (earlier : Option Answer) (full : Bool) (refused : Option Refusal) (a : Answer)
      → a ≡ unwrap_or earlier (if full then DeskFull else judged_answer L.history s (option_map_or reply.Refused refused (reply.Accepted (change_of L.history s).detail)))
      → MatchBool (is_some earlier) before (NewlyLeaves L s a before trees)
      → HoldsUpToOneMore (record L { history = if is_some earlier || full then L.history else option_map_or (λ _. L.history) refused (accept L.history s) }) trees
  answered (Some e) full refused a told h = near h
  answered None true refused a told h = near (subst (λ (it : Answer). NewlyLeaves L s it before trees) told h)
  answered None false (Some r) a told h = near (subst (λ (it : Answer). NewlyLeaves L s it before trees) told h)
  answered None false None a told h = inl (subst (λ (it : Answer). NewlyLeaves L s it before trees) told h)

  by_answer : (a : Answer) → a ≡ command_answer Two L.greatest L.history s → Leaves L s a before trees → HoldsUpToOneMore (record L { history = command_after Two L.greatest L.history s }) trees
  by_answer a told h = answered (earlier_answer L.history s) (is_full L.greatest L.history) (refusal_of Two L.history s) a told h

  pub step : (a : Answer) → IsAnswer (ledger L) s a → Leaves L s a before trees → HoldsUpToOneMore (kept_after L s a) trees
  step (Accepted n text) told h = by_answer (Accepted n text) told h
  step (Refused r) told h = by_answer (Refused r) told h
  step (IdReused n) told h = by_answer (IdReused n) told h
  step DeskFull told h = by_answer DeskFull told h
  step Unavailable told h = elim (left (is_some (earlier_answer L.history s)) _ _ h) [ inl was ↦ near was | inr made ↦ inr (s, made.0, made.1) ]

module _ {S D : Type 0} (g : Ghosts S) (F : D → Basis → Type 0) (store : LineStore S D) (G : Ledger) (s : Stamped) (two : G.rules ≡ Two) where
  pub answer_so : (a : Answer) → IsAnswer (ledger (own_kept G)) s a → IsAnswer G s a
  answer_so a told = subst (λ (r : Rules). IsAnswer (record { rules = r; greatest = G.greatest; history = G.history }) s a) (sym two) told

  abbrev after : Rules → Kept
  after rules = record { greatest = G.greatest; history = command_after rules G.greatest G.history s; own = true }

  by_rules : IsWatched g F store (after Two) → IsWatched g F store (after G.rules)
  by_rules = subst (λ (r : Rules). IsWatched g F store (after r)) (sym two)

  pub watched_so : (a : Answer) → IsWatched g F store (kept_after (own_kept G) s a) → ((ledger_after G s a).rules ≡ Two) × IsWatched g F store (own_kept (ledger_after G s a))
  watched_so (Accepted n text) h = (two, by_rules h)
  watched_so (Refused r) h = (two, by_rules h)
  watched_so (IdReused n) h = (two, by_rules h)
  watched_so DeskFull h = (two, by_rules h)
  watched_so Unavailable h = (two, h)
