use Rattle.desk_types.proofs.Common.{[], ◌++◌, ◌+◌, ◌∙◌, ◌∷◌, ◌≡◌, ◌≤◌, accept, after_command, after_commands}
use Rattle.desk_types.proofs.Common.{ap, append_assoc, arith, drop, drop-next, History, length, List, None}
use Rattle.desk_types.proofs.Common.{Option, option_map_or, refusal_of, replies_to, reply_to, Some, sym, ℕ}
use Rattle.desk_types.specs.{declared.answer.Refusal.Refusal, declared.answer.Reply.Reply}
use Rattle.desk_types.specs.{declared.command.Stamped.Stamped, declared.rules.Rules.Rules}
use Rattle.desk_types.proofs.desk.run.Goals as goal

told_more : (rules : Rules) (H first : History) (ms : List Stamped) (i : ℕ) (s : Stamped) (rs : List Reply) (r : Reply)
    → drop i ms ≡ s ∷ drop (i + 1) ms → r ≡ reply_to rules H s → rs ++ replies_to rules H (drop i ms) ≡ replies_to rules first ms
    → (rs ++ r ∷ []) ++ replies_to rules (after_command rules H s) (drop (i + 1) ms) ≡ replies_to rules first ms
told_more rules H first ms i s rs r left is told =
    append_assoc rs (r ∷ []) _
    ∙ ap (λ x. rs ++ x ∷ replies_to rules (after_command rules H s) (drop (i + 1) ms)) is
    ∙ ap (λ l. rs ++ replies_to rules H l) (sym left)
    ∙ told

length-after_command : (rules : Rules) (H : History) (s : Stamped) → length (after_command rules H s) ≤ length H + 1
length-after_command rules H s = by (refusal_of rules H s)
  where
    by : (r : Option Refusal) → length (option_map_or (λ _. H) r (accept H s)) ≤ length H + 1
    by None = omega arith
    by (Some r) = omega arith

pub loop-message-preserved : goal.loop-message-preserved
loop-message-preserved g c =
    let message = c.message-item.result in
    let i = c.loop-message.message-index in
    let ms = c.args.messages.now in
    let here = drop-next ms i message (omega arith) c.message-item.is in
    record {
      told = λ B stands.
          let now = c.loop-message.invariant.told B stands in
          let basis = record B { history = now.0 } in (
            after_command B.rules now.0 message,
            c.in_ok-reply.ensures.stands basis now.1,
            rw c.in_ok-push.ensures.items (told_more B.rules now.0 B.history ms i message _ _ here (c.in_ok-reply.ensures.reply basis now.1) now.2),
            ap (after_commands B.rules now.0) (sym here) ∙ now.3,
          );
      room =
          let room = c.loop-message.invariant.room in
          let B = room.0 in
          (record B { history = after_command B.rules B.history message }, c.in_ok-reply.ensures.stands B room.1, omega (arith, length-after_command B.rules B.history message));
    }
