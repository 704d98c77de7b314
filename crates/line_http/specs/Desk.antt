-- The desk's routes, over both lists.
use Rattle.std.specs.Prelude.{ℕ, Err, List, Ok, Result}
use Rattle.desk_answers.specs.Ledger.{Ledger}
use Rattle.gateway_http.specs.Asked.{asked_of}
use Rattle.gateway_http.specs.Reports.{report_of}
use Rattle.gateway_http.specs.Requests.{asked_outcome}
use Rattle.gateway_http.specs.declared.asked.Asked.{Asked}
use Rattle.gateway_http.specs.declared.asked.Asked.TheVariants as asks
use Rattle.gateway_http.specs.declared.fault.AskFault.{AskFault}
use Rattle.http_stream.specs.Stream.{Outcome, Rule}
use Rattle.line_http.specs.Line.{Line}
use Rattle.line_http.specs.Messages.{heard}

-- The book after a request. Only a message adds to it.
abbrev pub booked : Line → List ℕ → Result Asked AskFault → Line
booked line body (Ok asks.Message) = heard line body
booked line body (Ok (asks.Import import)) = line
booked line body (Ok (asks.Report report)) = line
booked line body (Err fault) = line

-- The answer and the desk of this outcome, with the book of the line.
abbrev pub with_outcome : Line → Outcome Ledger → Outcome Line
with_outcome line o = record { told = o.told; after = record line { desk = o.after } }

-- The outcome of a request to the desk: answer and desk are those of `tracedesk serve`.
abbrev pub desk_asked : Line → List ℕ → Result Asked AskFault → Outcome Line
desk_asked line body asked =
    with_outcome (booked line body asked) (asked_outcome report_of line.desk body asked)

abbrev pub desk_outcome : Rule Line
desk_outcome line r = desk_asked line r.body (asked_of r.method r.target)
