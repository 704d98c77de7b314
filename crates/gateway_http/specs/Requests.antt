-- The answer to a request and the ledger after it, given the commands accepted before.
use Rattle.std.specs.Prelude.{ℕ, List, Option, Some, None, Result, Ok, Err}
use Rattle.desk_answers.specs.Ledger.{Ledger}
use Rattle.desk_feed.specs.Messages.{answer_to, list_after}
use Rattle.desk_feed.specs.declared.message.AnswerText.{AnswerText}
use Rattle.desk_feed.specs.Import.{after_said, answer_said}
use Rattle.desk_types.specs.History.{History}
use Rattle.desk_types.specs.declared.command.Stamped.{Stamped}
use Rattle.gateway_http.specs.Answer as request
use Rattle.gateway_http.specs.Asked.{asked_of}
use Rattle.gateway_http.specs.declared.asked.Asked.{Asked}
use Rattle.gateway_http.specs.declared.asked.Asked.TheVariants as asks
use Rattle.gateway_http.specs.declared.asked.Report.{Report}
use Rattle.gateway_http.specs.declared.asked.Report.TheVariants as report
use Rattle.gateway_http.specs.declared.fault.AskFault.{AskFault}
use Rattle.http_stream.specs.Answers.{Told, unavailable}
use Rattle.http_stream.specs.Stream.{Outcome, Rule}
use Rattle.http_stream.specs.declared.response.MediaType.TheVariants.{Json, Csv}
use Rattle.http_stream.specs.declared.response.Status.{Status}
use Rattle.http_stream.specs.declared.response.Status.TheVariants as status
use Rattle.imports.specs.Import.{command_said}
use Rattle.imports.specs.declared.fault.ImportFault.{ImportFault}
use Rattle.trace_reports.specs.NotFound.{not_found_text}
use Rattle.trace_reports.specs.declared.kind.Kind.{Kind}
use Rattle.trace_reports.specs.declared.kind.Kind.TheVariants.{Board, Lot, Reel, Machine, Sheet}
use Rattle.gateway_http.specs.Statuses.{request_fault_status, verdict_status}

-- ---- reports

-- The text of each report from a history, or none if its subject isn't found.
abbrev pub Reports : Type 0
Reports = Report → History → Option (List ℕ)

-- The subject of a report; the overdue list has no subject.
abbrev pub kind_of : Report → Option Kind
kind_of (report.BoardTrace board detail) = Some Board
kind_of (report.LotTrace lot detail) = Some Lot
kind_of (report.ReelCard reel) = Some Reel
kind_of (report.SlotList machine) = Some Machine
kind_of (report.KitList product machine boards) = Some Sheet
kind_of report.OverdueList = None

-- ---- answers

-- An answer with one JSON object.
abbrev pub json : Status → List ℕ → Told
json s text = record { status = s; kind = Json; body = text }

-- An answer with a list or a trace.
abbrev pub csv : List ℕ → Told
csv text = record { status = status.Ok; kind = Csv; body = text }

-- Nothing of this kind was found.
abbrev pub none_told : Option Kind → Told
none_told (Some kind) = json status.NotFound (not_found_text kind)
none_told None = unavailable

-- A report, or the answer that its subject isn't found.
abbrev pub report_told : Report → Option (List ℕ) → Told
report_told asked_of (Some text) = csv text
report_told asked_of None = none_told (kind_of asked_of)

-- An answer that leaves the history unchanged.
abbrev pub outcome_leaving : Ledger → Told → Outcome Ledger
outcome_leaving L told = record { told = told; after = L }

-- The answer to a message or an import, with the status of its verdict.
abbrev pub told : AnswerText → Told
told answer = json (verdict_status answer.verdict) answer.text

-- The outcome of a message.
abbrev pub message_outcome : Ledger → List ℕ → Outcome Ledger
message_outcome L body = record {
  told = told (answer_to L.rules L.greatest L.history body);
  after = record L { history = list_after L.rules L.greatest L.history body };
}

-- The outcome of an import, by the command or the first fault of its file.
abbrev pub import_outcome : Ledger → Result Stamped ImportFault → Outcome Ledger
import_outcome L said =
    record { told = told (answer_said L said); after = record L { history = after_said L said } }

-- The outcome of a request with this body.
abbrev pub asked_outcome : Reports → Ledger → List ℕ → Result Asked AskFault → Outcome Ledger
asked_outcome reports L body (Ok asks.Message) = message_outcome L body
asked_outcome reports L body (Ok (asks.Import import)) =
    import_outcome L (command_said import body)
asked_outcome reports L body (Ok (asks.Report asked_of)) =
    outcome_leaving L (report_told asked_of (reports asked_of L.history))
asked_outcome reports L body (Err fault) =
    outcome_leaving L (json (request_fault_status fault) (request.fault_text fault))

-- The gateway's rule: the outcome of a request with these reports. Only the history changes.
abbrev pub request_rule : Reports → Rule Ledger
request_rule reports L r = asked_outcome reports L r.body (asked_of r.method r.target)
