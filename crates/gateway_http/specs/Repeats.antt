-- Requests whose command was accepted before, and GET requests.
use Rattle.std.specs.Prelude.{Bool, false, not, ℕ, List, [], Option, Some, None, Result, Ok, Err, codes}
use Rattle.std.specs.Option.{option_map_or}
use Rattle.cfx_profile.specs.Message.{said_in}
use Rattle.cfx_profile.specs.declared.fault.MessageFault.{MessageFault}
use Rattle.cfx_profile.specs.declared.message.Said.{Said}
use Rattle.cfx_profile.specs.declared.message.Said.TheVariants as says
use Rattle.desk_answers.specs.Commands.{earlier_answer, is_refused}
use Rattle.desk_answers.specs.Ledger.{Ledger}
use Rattle.desk_types.specs.History.{History}
use Rattle.desk_types.specs.declared.command.Stamped.{Stamped}
use Rattle.gateway_http.specs.Asked.{asked_of}
use Rattle.gateway_http.specs.declared.asked.Asked.{Asked}
use Rattle.gateway_http.specs.declared.asked.Asked.TheVariants as asks
use Rattle.gateway_http.specs.declared.fault.AskFault.{AskFault}
use Rattle.http_stream.specs.Cut.{Request}
use Rattle.http_stream.specs.Repeats.{Repeats}
use Rattle.imports.specs.Import.{command_said}
use Rattle.imports.specs.declared.fault.ImportFault.{ImportFault}

-- ---- repeats

-- The command in a message.
abbrev pub message_command : Result Said MessageFault → Option Stamped
message_command (Ok (says.Ignored name)) = None
message_command (Ok (says.Asked s)) = Some s
message_command (Err fault) = None

-- The command of an import.
abbrev pub import_command : Result Stamped ImportFault → Option Stamped
import_command (Ok s) = Some s
import_command (Err fault) = None

-- The command in a request with this body, if it has one.
abbrev pub command_asked : List ℕ → Result Asked AskFault → Option Stamped
command_asked body (Ok asks.Message) = message_command (said_in body)
command_asked body (Ok (asks.Import import)) = import_command (command_said import body)
command_asked body (Ok (asks.Report report)) = None
command_asked body (Err fault) = None

-- The same message was accepted before.
abbrev pub is_known : History → Stamped → Bool
is_known H s = option_map_or (λ answer. not (is_refused answer)) (earlier_answer H s) false

-- The request is a repeat: its command was accepted before, from the same message or file.
abbrev pub is_repeat : Repeats Ledger
is_repeat G r =
    option_map_or (is_known G.history) (command_asked r.body (asked_of r.method r.target)) false

-- ---- GET requests

-- A GET of a target, without a body.
abbrev pub get_of : List ℕ → Request
get_of target = record { method = codes "GET"; target = target; body = [] }
