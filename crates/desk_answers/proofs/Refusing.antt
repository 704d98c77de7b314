-- A refused command leaves the history unchanged.
use Rattle.desk_types.proofs.Common.{◌||◌, ◌≡◌, accept, ap, Bool, change_of, cond, false, History, is_some}
use Rattle.desk_types.proofs.Common.{None, Option, option_map_or, refl, refusal_of, Some, sym, true}
use Rattle.desk_types.proofs.Common.{unwrap_or, ℕ}
use Rattle.desk_answers.specs.Commands.{command_after, command_answer, earlier_answer, is_full, is_refused}
use Rattle.desk_answers.specs.Commands.{judged_answer}
use Rattle.desk_answers.specs.Ledger.{IsAnswer, Ledger, ledger_after}
use Rattle.desk_answers.specs.declared.answer.Answer.{Answer}
use Rattle.desk_answers.specs.declared.answer.Answer.TheVariants.{Accepted, DeskFull, IdReused, Refused}
use Rattle.desk_answers.specs.declared.answer.Answer.TheVariants.{Unavailable}
use Rattle.desk_types.specs.declared.answer.Detail.{Detail}
use Rattle.desk_types.specs.declared.answer.Refusal.{Refusal}
use Rattle.desk_types.specs.declared.command.Stamped.{Stamped}
use Rattle.desk_types.specs.declared.rules.Rules.{Rules}
use Rattle.desk_types.specs.declared.answer.Reply.TheVariants as reply

by_cases : (H grown : History) (s : Stamped) (detail : Detail) (earlier : Option Answer) (full : Bool) (refusal : Option Refusal)
    → is_refused (unwrap_or earlier (cond full DeskFull (judged_answer H s (option_map_or reply.Refused refusal (reply.Accepted detail))))) ≡ true
    → cond (is_some earlier || full) H (option_map_or (λ _. H) refusal grown) ≡ H
by_cases H grown s detail (Some a) full refusal e = refl
by_cases H grown s detail None true refusal e = refl
by_cases H grown s detail None false (Some refusal) e = refl
by_cases H grown s detail None false None e = absurd (cc)

pub refused_stays : (rules : Rules) (greatest : ℕ) (H : History) (s : Stamped) → is_refused (command_answer rules greatest H s) ≡ true → command_after rules greatest H s ≡ H
refused_stays rules greatest H s =
    by_cases H (accept H s) s (change_of H s).detail (earlier_answer H s) (is_full greatest H) (refusal_of rules H s)

pub refused_leaves : (L : Ledger) (s : Stamped) (answer : Answer) → IsAnswer L s answer → is_refused answer ≡ true → ledger_after L s answer ≡ L
refused_leaves L s (Accepted number text) e refused = absurd (cc)
refused_leaves L s (Refused refusal) e refused = ap (λ H. record L { history = H }) (refused_stays L.rules L.greatest L.history s (ap is_refused (sym e)))
refused_leaves L s (IdReused number) e refused = ap (λ H. record L { history = H }) (refused_stays L.rules L.greatest L.history s (ap is_refused (sym e)))
refused_leaves L s DeskFull e refused = ap (λ H. record L { history = H }) (refused_stays L.rules L.greatest L.history s (ap is_refused (sym e)))
refused_leaves L s Unavailable e refused = refl
