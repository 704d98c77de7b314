-- A repeat leaves the history unchanged.
use Rattle.desk_types.proofs.Common.{◌≡◌, ap, Err, false, is_some, List, None, not, Ok, Option, option_map_or}
use Rattle.desk_types.proofs.Common.{refl, Result, Some, true, ℕ}
use Rattle.cfx_profile.specs.{Message.said_in, declared.fault.MessageFault.MessageFault}
use Rattle.cfx_profile.specs.{declared.message.Said.Said}
use Rattle.desk_answers.specs.{Commands.command_after, Commands.earlier_answer, Commands.is_refused}
use Rattle.desk_answers.specs.{Ledger.Ledger, declared.answer.Answer.Answer}
use Rattle.desk_feed.specs.{Import.after_said, Messages.after_heard}
use Rattle.desk_types.specs.declared.command.Stamped.{Stamped}
use Rattle.gateway_http.specs.{Repeats.command_asked, Repeats.import_command, Repeats.is_known}
use Rattle.gateway_http.specs.{Repeats.message_command, Requests.asked_outcome, Requests.Reports}
use Rattle.gateway_http.specs.{declared.asked.Asked.Asked, declared.fault.AskFault.AskFault}
use Rattle.imports.specs.{Import.command_said, declared.fault.ImportFault.ImportFault}
use Rattle.cfx_profile.specs.declared.message.Said.TheVariants as says
use Rattle.gateway_http.specs.declared.asked.Asked.TheVariants as asks

known-some : (o : Option Answer) → option_map_or (λ answer. not (is_refused answer)) o false ≡ true → is_some o ≡ true
known-some None e = absurd (cc)
known-some (Some answer) e = refl

command-stays : (L : Ledger) (s : Stamped) → is_known L.history s ≡ true → command_after L.rules L.greatest L.history s ≡ L.history
command-stays L s e = rw (known-some (earlier_answer L.history s) e) refl

message-stays : (L : Ledger) (m : Result Said MessageFault) → option_map_or (is_known L.history) (message_command m) false ≡ true
    → after_heard L.rules L.greatest L.history m ≡ L.history
message-stays L (Ok (says.Ignored name)) e = refl
message-stays L (Ok (says.Asked s)) e = command-stays L s e
message-stays L (Err fault) e = refl

import-stays : (L : Ledger) (said : Result Stamped ImportFault) → option_map_or (is_known L.history) (import_command said) false ≡ true → after_said L said ≡ L.history
import-stays L (Ok s) e = command-stays L s e
import-stays L (Err fault) e = refl

pub repeat-stays : (reports : Reports) (L : Ledger) (body : List ℕ) (a : Result Asked AskFault) → option_map_or (is_known L.history) (command_asked body a) false ≡ true → (asked_outcome reports L body a).after ≡ L
repeat-stays reports L body (Ok asks.Message) e = ap (λ H. record L { history = H }) (message-stays L (said_in body) e)
repeat-stays reports L body (Ok (asks.Import import)) e = ap (λ H. record L { history = H }) (import-stays L (command_said import body) e)
repeat-stays reports L body (Ok (asks.Report report)) e = refl
repeat-stays reports L body (Err fault) e = refl
